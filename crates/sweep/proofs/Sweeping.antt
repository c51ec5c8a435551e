-- A swept shape: at a path it is black exactly if a path over it is, where the path below is the one above without the halves at levels of axis j. By
-- recursion over the order, with the halves of any shape, those of a leaf being the leaf. It is no longer and no deeper than the shape, and the sweep of two
-- shapes laid over each other is their sweeps laid over each other.
use mathlib.Core.Path.{◌≡◌, refl, sym, ap, ap₂, subst, ◌∙◌}
use mathlib.Core.Bool.{Bool, true, false, cond}
use mathlib.Core.List.{List, [], ◌∷◌}
use mathlib.Core.Logic.{⊎_elim}
use Prim.Native.Nat.{ℕ, suc, ◌+◌, ◌≤◌}
use native.Mathlib.Omega.{arith}
use native.Mathlib.Decide.{ℕ_discrete}
use lib.Dec.{eqb}
use lib.ListN.{length}
use borrow.Author.Tests.{eq-eqb, ne_eqb}
use Rattle.universe.specs.Rounds.{without, axis_after}
use Rattle.bintree.specs.declared.Colour.{Colour}
use Rattle.bintree.specs.declared.Colour.TheVariants.{White, Black}
use Rattle.bintree.specs.Shape.{Shape, leaf, halved, size, depth}
use Rattle.bintree.specs.Merging.{merged}
use Rattle.bintree.specs.Parts.{part, colour_of}
use Rattle.bintree.proofs.Shape.{depth_low, depth_high}
use Rattle.bintree.proofs.Merging.{merged_size}
use Rattle.sweep.specs.Sweeping.{either, over, swept}
use Rattle.sweep.proofs.Over.{colour, of_choice, over_colour, black_left, black_right, black_one, over_size, over_deep}
use Rattle.sweep.proofs.Over.{over_white, over_black, over_pairs, over_same}

-- ---- paths

-- a path has one half a level
pub data Path : List ℕ → List ℕ → Type 0 where
  end : Path [] []
  low : {i : ℕ} {order p : List ℕ} → Path order p → Path (i ∷ order) (0 ∷ p)
  high : {i : ℕ} {order p : List ℕ} → Path order p → Path (i ∷ order) (1 ∷ p)

-- a path with the halves at levels of axis j left out
unfoldable pub shadow : List ℕ → ℕ → List ℕ → List ℕ
shadow [] j p = p
shadow (x ∷ order) j [] = []
shadow (x ∷ order) j (h ∷ p) = cond (eqb x j) (shadow order j p) (h ∷ shadow order j p)

-- over the path q, along axis j, lies a path at which s is black
pub record BlackAbove (order : List ℕ) (j : ℕ) (s : Shape) (q : List ℕ) : Type 0 where
  pub path : List ℕ
  pub is_path : Path order path
  pub above : shadow order j path ≡ q
  pub black : colour s path ≡ Black

-- ---- the halves of any shape

unfoldable low_part : Shape → Shape
low_part (leaf c) = leaf c
low_part (halved a b) = a

unfoldable high_part : Shape → Shape
high_part (leaf c) = leaf c
high_part (halved a b) = b

-- the half that h names
abbrev half : ℕ → Shape → Shape
half h s = cond (eqb h 0) (low_part s) (high_part s)

same : {A : Type 0} (t : Bool) (x : A) → x ≡ cond t x x
same true x = refl
same false x = refl

colour_half : (s : Shape) (h : ℕ) (p : List ℕ) → colour s (h ∷ p) ≡ colour (half h s) p
unfolding part low_part high_part
colour_half (leaf c) h p = ap (λ s. colour s p) (same (eqb h 0) (leaf c))
colour_half (halved a b) h p = ap colour_of (sym (of_choice (λ s. part s p) (eqb h 0) a b))

-- ---- one level

pub swept_leaf : (order : List ℕ) (j : ℕ) (c : Colour) → swept order j (leaf c) ≡ leaf c
unfolding swept
swept_leaf [] j c = refl
swept_leaf (x ∷ order) j c = refl

module _ (x : ℕ) (order : List ℕ) (j : ℕ) where
  -- a level of axis j
  swept_here : (s : Shape) → x ≡ j → swept (x ∷ order) j s ≡ over (swept order j (low_part s)) (swept order j (high_part s))
  unfolding swept low_part high_part
  swept_here (leaf c) e = sym (over_same (leaf c)) ∙ sym (ap₂ over (swept_leaf order j c) (swept_leaf order j c))
  swept_here (halved a b) e = rw (eq-eqb x j e)

  -- another level
  swept_other : (s : Shape) (h : ℕ) (q : List ℕ) → (x ≡ j → ⊥) → colour (swept (x ∷ order) j s) (h ∷ q) ≡ colour (swept order j (half h s)) q
  unfolding swept low_part high_part part
  swept_other (leaf c) h q n = go (eqb h 0)
    where
      go : (t : Bool) → c ≡ colour (swept order j (cond t (leaf c) (leaf c))) q
      go true = sym (ap (λ s. colour s q) (swept_leaf order j c))
      go false = sym (ap (λ s. colour s q) (swept_leaf order j c))
  swept_other (halved a b) h q n = rw (ne_eqb x j n) (go (eqb h 0))
    where
      go : (t : Bool) → colour_of (cond t (part (swept order j a) q) (part (swept order j b) q)) ≡ colour (swept order j (cond t a b)) q
      go true = refl
      go false = refl

  pub shadow_here : (h : ℕ) (p : List ℕ) → x ≡ j → shadow (x ∷ order) j (h ∷ p) ≡ shadow order j p
  unfolding shadow
  shadow_here h p e = rw (eq-eqb x j e)

  pub shadow_other : (h : ℕ) (p : List ℕ) → (x ≡ j → ⊥) → shadow (x ∷ order) j (h ∷ p) ≡ h ∷ shadow order j p
  unfolding shadow
  shadow_other h p n = rw (ne_eqb x j n)

  pub without_here : x ≡ j → without j (x ∷ order) ≡ without j order
  unfolding without
  without_here e = rw (eq-eqb x j e)

  pub without_other : (x ≡ j → ⊥) → without j (x ∷ order) ≡ axis_after j x ∷ without j order
  unfolding without
  without_other n = rw (ne_eqb x j n)

-- ---- below a black path the swept shape is black

lower_half : (order : List ℕ) (j : ℕ) (s : Shape) (h : ℕ) (p : List ℕ) →
    colour (swept order j (half h s)) p ≡ Black → colour (over (swept order j (low_part s)) (swept order j (high_part s))) p ≡ Black
lower_half order j s h p e = over_colour (swept order j (low_part s)) (swept order j (high_part s)) p ∙ go (eqb h 0) e
  where
    go : (t : Bool) → colour (swept order j (cond t (low_part s) (high_part s))) p ≡ Black →
        either (colour (swept order j (low_part s)) p) (colour (swept order j (high_part s)) p) ≡ Black
    go true e = black_left (colour (swept order j (low_part s)) p) (colour (swept order j (high_part s)) p) e
    go false e = black_right (colour (swept order j (low_part s)) p) (colour (swept order j (high_part s)) p) e

pub black_below : (order : List ℕ) (j : ℕ) (s : Shape) (p : List ℕ) → Path order p → colour s p ≡ Black → colour (swept order j s) (shadow order j p) ≡ Black
unfolding swept shadow
black_below [] j s p w e = e
black_below (x ∷ order) j s [] w e = elim w [ ]
black_below (x ∷ order) j s (h ∷ p) w e = step x order j s h p (black_below order j (half h s) p (rest w) (sym (colour_half s h p) ∙ e))
  where
    rest : {x h : ℕ} {order p : List ℕ} → Path (x ∷ order) (h ∷ p) → Path order p
    rest (low v) = v
    rest (high v) = v

    step : (x : ℕ) (order : List ℕ) (j : ℕ) (s : Shape) (h : ℕ) (p : List ℕ) → colour (swept order j (half h s)) (shadow order j p) ≡ Black →
        colour (swept (x ∷ order) j s) (shadow (x ∷ order) j (h ∷ p)) ≡ Black
    step x order j s h p e = go (ℕ_discrete x j)
      where
        go : Dec (x ≡ j) → colour (swept (x ∷ order) j s) (shadow (x ∷ order) j (h ∷ p)) ≡ Black
        go (yes f) = ap₂ colour (swept_here x order j s f) (shadow_here x order j h p f) ∙ lower_half order j s h (shadow order j p) e
        go (no n) = ap (colour (swept (x ∷ order) j s)) (shadow_other x order j h p n) ∙ swept_other x order j s h (shadow order j p) n ∙ e

-- ---- over a black path of the swept shape lies a black path, and it is found

module _ (x : ℕ) (order : List ℕ) (j : ℕ) (s : Shape) where
  from_low : (q : List ℕ) → x ≡ j → BlackAbove order j (low_part s) q → BlackAbove (x ∷ order) j s q
  from_low q f r = record {
    path = 0 ∷ r.path;
    is_path = low r.is_path;
    above = shadow_here x order j 0 r.path f ∙ r.above;
    black = colour_half s 0 r.path ∙ r.black;
  }

  from_high : (q : List ℕ) → x ≡ j → BlackAbove order j (high_part s) q → BlackAbove (x ∷ order) j s q
  from_high q f r = record {
    path = 1 ∷ r.path;
    is_path = high r.is_path;
    above = shadow_here x order j 1 r.path f ∙ r.above;
    black = colour_half s 1 r.path ∙ r.black;
  }

  module _ (ih : (s : Shape) (q : List ℕ) → Path (without j order) q → colour (swept order j s) q ≡ Black → BlackAbove order j s q) where
    above_here : (q : List ℕ) → x ≡ j → Path (without j (x ∷ order)) q → colour (swept (x ∷ order) j s) q ≡ Black → BlackAbove (x ∷ order) j s q
    above_here q f w e =
        let v = subst (λ o. Path o q) (without_here x order j f) w in
        let l = swept order j (low_part s) in
        let h = swept order j (high_part s) in
        ⊎_elim (λ b. from_low q f (ih (low_part s) q v b)) (λ b. from_high q f (ih (high_part s) q v b))
        (black_one (colour l q) (colour h q) (sym (over_colour l h q) ∙ ap (λ t. colour t q) (sym (swept_here x order j s f)) ∙ e))

    above_other : (y : ℕ) (q : List ℕ) → (x ≡ j → ⊥) → Path (y ∷ without j order) q → colour (swept (x ∷ order) j s) q ≡ Black → BlackAbove (x ∷ order) j s q
    above_other y q n (low {p = p} w) e =
        let r = ih (low_part s) p w (sym (swept_other x order j s 0 p n) ∙ e) in
        record {
          path = 0 ∷ r.path;
          is_path = low r.is_path;
          above = shadow_other x order j 0 r.path n ∙ ap (λ z. 0 ∷ z) r.above;
          black = colour_half s 0 r.path ∙ r.black;
        }
    above_other y q n (high {p = p} w) e =
        let r = ih (high_part s) p w (sym (swept_other x order j s 1 p n) ∙ e) in
        record {
          path = 1 ∷ r.path;
          is_path = high r.is_path;
          above = shadow_other x order j 1 r.path n ∙ ap (λ z. 1 ∷ z) r.above;
          black = colour_half s 1 r.path ∙ r.black;
        }

    above_step : (q : List ℕ) → Dec (x ≡ j) → Path (without j (x ∷ order)) q → colour (swept (x ∷ order) j s) q ≡ Black → BlackAbove (x ∷ order) j s q
    above_step q (yes f) w e = above_here q f w e
    above_step q (no n) w e = above_other (axis_after j x) q n (subst (λ o. Path o q) (without_other x order j n) w) e

pub black_above : (order : List ℕ) (j : ℕ) (s : Shape) (q : List ℕ) → Path (without j order) q → colour (swept order j s) q ≡ Black → BlackAbove order j s q
unfolding swept shadow without
black_above [] j s q w e = record { path = q; is_path = w; above = refl; black = e }
black_above (x ∷ order) j s q w e = above_step x order j s (black_above order j) q (ℕ_discrete x j) w e

-- ---- size and depth

pub swept_size : (order : List ℕ) (j : ℕ) (s : Shape) → size (swept order j s) ≤ size s
unfolding swept size
swept_size [] j s = omega arith
swept_size (x ∷ order) j (leaf c) = omega arith
swept_size (x ∷ order) j (halved a b) = go (eqb x j) (swept_size order j a) (swept_size order j b)
  where
    go : (t : Bool) → size (swept order j a) ≤ size a → size (swept order j b) ≤ size b →
        size (cond t (over (swept order j a) (swept order j b)) (halved (swept order j a) (swept order j b))) ≤ suc (size a + size b)
    go true h k = omega (arith, over_size (swept order j a) (swept order j b))
    go false h k = omega arith

-- THEOREM: what is written is no longer than what was swept
pub merged_swept_size : (order : List ℕ) (j : ℕ) (s : Shape) → size (merged (swept order j s)) ≤ size s
merged_swept_size order j s = omega (arith, merged_size (swept order j s), swept_size order j s)

pub swept_deep : (order : List ℕ) (j : ℕ) (s : Shape) → depth s ≤ length order → depth (swept order j s) ≤ length (without j order)
unfolding swept without depth
swept_deep [] j s d = d
swept_deep (x ∷ order) j (leaf c) d = omega arith
swept_deep (x ∷ order) j (halved a b) d =
    go (ℕ_discrete x j) (swept_deep order j a (depth_low a b (length order) d)) (swept_deep order j b (depth_high a b (length order) d))
  where
    go : Dec (x ≡ j) → depth (swept order j a) ≤ length (without j order) → depth (swept order j b) ≤ length (without j order) →
        depth (cond (eqb x j) (over (swept order j a) (swept order j b)) (halved (swept order j a) (swept order j b))) ≤ length (without j (x ∷ order))
    go (yes e) h k = rw (eq-eqb x j e) (over_deep (swept order j a) (swept order j b) (length (without j order)) h k)
    go (no n) h k = rw (ne_eqb x j n) (omega arith)

-- ---- THEOREM: the sweep of two shapes laid over each other is their sweeps laid over each other

level_over : (t : Bool) (a b c d ac bd : Shape) → ac ≡ over a c → bd ≡ over b d →
    cond t (over ac bd) (halved ac bd) ≡ over (cond t (over a b) (halved a b)) (cond t (over c d) (halved c d))
unfolding over
level_over true a b c d ac bd e f = ap₂ over e f ∙ over_pairs a c b d
level_over false a b c d ac bd e f = ap₂ halved e f

pub swept_over : (order : List ℕ) (j : ℕ) (s t : Shape) → swept order j (over s t) ≡ over (swept order j s) (swept order j t)
unfolding swept over
swept_over [] j s t = refl
swept_over (x ∷ order) j (leaf White) t = refl
swept_over (x ∷ order) j (leaf Black) t = refl
swept_over (x ∷ order) j (halved a b) (leaf White) = sym (over_white (swept (x ∷ order) j (halved a b)))
swept_over (x ∷ order) j (halved a b) (leaf Black) = sym (over_black (swept (x ∷ order) j (halved a b)))
swept_over (x ∷ order) j (halved a b) (halved c d) =
    level_over (eqb x j) (swept order j a) (swept order j b) (swept order j c) (swept order j d) (swept order j (over a c)) (swept order j (over b d))
    (swept_over order j a c) (swept_over order j b d)
