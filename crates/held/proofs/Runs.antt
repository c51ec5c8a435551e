-- What is held at a way. `solid c w` is what of the merged text stays when the way is filled with what merges to a leaf of colour c; the rest, `run c w`
-- symbols that begin with `(`, could still become that one leaf. A way that is filled with anything else keeps all of its merged text.
use mathlib.Core.Path.{◌≡◌, refl, sym, ap, subst, ◌∙◌}
use mathlib.Core.Bool.{true, false, cond}
use mathlib.Core.List.{List, [], ◌∷◌, ◌++◌, append_assoc, append-nil}
use Prim.Native.Nat.{ℕ, suc, ◌+◌, ◌-◌, ◌≤◌, ◌<◌, max}
use native.Mathlib.Nat.{max-le, le-max_left, le-max_right}
use native.Mathlib.Decide.{dec_lt}
use native.Mathlib.Omega.{arith}
use lib.ListN.{length, length-append, take, get_or}
use lib.Seq.{take-append-le, take-append-add, get_or-append_seam}
use Rattle.universe.specs.declared.Universe.{Universe}
use Rattle.universe.specs.Universe.{levels}
use Rattle.bintree.specs.declared.Colour.{Colour}
use Rattle.bintree.specs.declared.Colour.TheVariants.{White, Black}
use Rattle.bintree.specs.Shape.{Shape, leaf, halved, open_symbol, symbol_of, symbols, depth}
use Rattle.bintree.specs.Merging.{join, merged, is_pair, onward}
use Rattle.bintree.proofs.Shape.{symbol_not_open}
use Rattle.bintree.proofs.Merging.{Joined, one, two, joined, join_leaves}
use Rattle.held.specs.Held.{Begins, Fixed, Held}
use Rattle.held.proofs.Texts.{spelt, spelt_accepted, spelt_merges, begins_append, begins_take}
use Rattle.held.proofs.Ways.{Way, top, low, high, text_of, merged_of, merged_way, Calm, empty, opens}
use Rattle.held.proofs.Ways.{Fills, at_top, in_low_lem, in_high_lem, filled, fills_text, fill, fill_fills, fill_depth, low_text, high_text}

-- whether a shape is the leaf of colour c
data Toward (c : Colour) : Shape → Type 0 where
  same : is_pair (leaf c) (leaf c) ≡ true → Toward c (leaf c)
  other : {m : Shape} → is_pair (leaf c) m ≡ false → join m (leaf c) ≡ halved m (leaf c) → Toward c m

toward : (c : Colour) (m : Shape) → Toward c m
unfolding is_pair join
toward Black (leaf Black) = same refl
toward White (leaf White) = same refl
toward Black (leaf White) = other refl refl
toward White (leaf Black) = other refl refl
toward Black (halved a b) = other refl refl
toward White (halved a b) = other refl refl

-- ---- what stays and what could still become one leaf

unfoldable pub run : Colour → Way → ℕ
run c top = 0
run c (low w) = run c w + 1
run c (high w a) = onward c (run c w) a

unfoldable pub solid : Colour → Way → List ℕ
solid c top = []
solid c (low w) = solid c w
solid c (high w a) = cond (is_pair (leaf c) (merged a)) (solid c w) (merged_of (high w a))

pub record Split (c : Colour) (w : Way) : Type 0 where
  pub loose : List ℕ
  pub is : merged_of w ≡ solid c w ++ loose
  pub size : length loose ≡ run c w
  pub calm : Calm loose

calm_more : {m : List ℕ} (t : List ℕ) → Calm m → Calm (m ++ (open_symbol ∷ t))
calm_more t empty = opens t
calm_more t (opens m) = opens (m ++ (open_symbol ∷ t))

more : (x y z t : List ℕ) → x ≡ y ++ z → x ++ t ≡ y ++ (z ++ t)
more x y z t e = ap (λ k. k ++ t) e ∙ append_assoc y z t

split_high : (c : Colour) (w : Way) (a m : Shape) → merged a ≡ m → Toward c m → Split c w → Split c (high w a)
unfolding run solid onward merged_of symbols
split_high c w a m e (same i) s =
    record {
      loose = s.loose ++ (open_symbol ∷ symbol_of c ∷ []);
      is = rw (e, i) (more (merged_of w) (solid c w) s.loose (open_symbol ∷ symbol_of c ∷ []) s.is);
      size = rw (e, i) (omega (arith, length-append s.loose (open_symbol ∷ symbol_of c ∷ []), s.size));
      calm = calm_more (symbol_of c ∷ []) s.calm;
    }
split_high c w a m e (other i j) s =
    record {
      loose = [];
      is = rw (e, i) (sym (append-nil (merged_of w ++ (open_symbol ∷ symbols m))));
      size = rw (e, i);
      calm = empty;
    }

pub split : (c : Colour) (w : Way) → Split c w
unfolding run solid merged_of
split c top = record { loose = []; is = refl; size = refl; calm = empty }
split c (low w) =
    let s = split c w in
    record {
      loose = s.loose ++ (open_symbol ∷ []);
      is = more (merged_of w) (solid c w) s.loose (open_symbol ∷ []) s.is;
      size = omega (arith, length-append s.loose (open_symbol ∷ []), s.size);
      calm = calm_more [] s.calm;
    }
split c (high w a) = split_high c w a (merged a) refl (toward c (merged a)) (split c w)

-- ---- soundness

join_high : (m u v : Shape) → join m (halved u v) ≡ halved m (halved u v)
unfolding join
join_high (leaf c) u v = refl
join_high (halved a b) u v = refl

-- a way that is filled with what does not merge to a leaf keeps all of its merged text
pub stays : {w : Way} {x s : Shape} → Fills w x s → (u v : Shape) → merged x ≡ halved u v → Begins (merged_of w ++ symbols (halved u v)) (symbols (merged s))
unfolding merged_of symbols merged join
stays (at_top x) u v e = record { rest = []; is = ap symbols e ∙ sym (append-nil (symbols (halved u v))) }
stays {s = s} (in_low_lem {w = w} b f) u v e =
    let k = stays f (halved u v) (merged b) (ap (λ z. join z (merged b)) e) in
    begins_append ((merged_of w ++ (open_symbol ∷ [])) ++ symbols (halved u v)) (symbols (merged b))
    (subst (λ z. Begins z (symbols (merged s))) (low_text (merged_of w) (symbols (halved u v)) (symbols (merged b))) k)
stays {s = s} (in_high_lem {w = w} {a = a} f) u v e =
    let k = stays f (merged a) (halved u v) (ap (join (merged a)) e ∙ join_high (merged a) u v) in
    subst (λ z. Begins z (symbols (merged s))) (high_text (merged_of w) (symbols (merged a)) (symbols (halved u v))) k

begins_nil : (z : List ℕ) → Begins [] z
begins_nil z = record { rest = z; is = refl }

pub solid_within : {z : List ℕ} (c : Colour) (w : Way) → Begins (merged_of w) z → Begins (solid c w) z
solid_within {z} c w b = let s = split c w in begins_append (solid c w) s.loose (subst (λ k. Begins k z) s.is b)

keeps_low :
    {w : Way} {x s : Shape} (c : Colour) (b m j : Shape) → merged b ≡ m → Joined (leaf c) m j → merged (halved x b) ≡ j → Fills w (halved x b) s →
    (merged (halved x b) ≡ leaf c → Begins (solid c w) (symbols (merged s))) → Begins (solid c (low w)) (symbols (merged s))
unfolding solid merged_of symbols
keeps_low c b m j e (one d) g f k = k g
keeps_low {w} {x} {s} c b m j e (two p) g f k =
    let z = stays f (leaf c) m g in
    solid_within c w (begins_append (merged_of w) (symbols (halved (leaf c) m)) z)

keeps_high :
    {w : Way} {x s : Shape} (c : Colour) (a m : Shape) → merged a ≡ m → Toward c m → merged (halved a x) ≡ join m (leaf c) → Fills w (halved a x) s →
    (merged (halved a x) ≡ leaf c → Begins (solid c w) (symbols (merged s))) → Begins (solid c (high w a)) (symbols (merged s))
unfolding solid merged_of symbols
keeps_high c a m e (same i) g f k = rw (e, i) (k (g ∙ join_leaves c))
keeps_high {w} {x} {s} c a m e (other i j) g f k =
    let z = stays f m (leaf c) (g ∙ j) in
    let b = subst (λ y. Begins y (symbols (merged s))) (high_text (merged_of w) (symbols m) (symbol_of c ∷ [])) z in
    rw (e, i) (begins_append (merged_of w ++ (open_symbol ∷ symbols m)) (symbol_of c ∷ []) b)

-- filled with what merges to a leaf of colour c it keeps the solid part
pub keeps : {w : Way} {x s : Shape} (c : Colour) → Fills w x s → merged x ≡ leaf c → Begins (solid c w) (symbols (merged s))
unfolding solid merged
keeps {s = s} c (at_top x) e = begins_nil (symbols (merged s))
keeps {x = x} c (in_low_lem b f) e =
    keeps_low c b (merged b) (join (leaf c) (merged b)) refl (joined (leaf c) (merged b)) (ap (λ z. join z (merged b)) e) f (keeps c f)
keeps {x = x} c (in_high_lem {a = a} f) e = keeps_high c a (merged a) refl (toward c (merged a)) (ap (join (merged a)) e) f (keeps c f)

-- ---- completeness: where all that is to come is of colour c, the solid part is followed by that colour's symbol

turns_high :
    (c : Colour) (w : Way) (a m x : Shape) → merged a ≡ m → Toward c m → merged (halved a x) ≡ join m (leaf c) →
    (merged (halved a x) ≡ leaf c → Begins (solid c w ++ (symbol_of c ∷ [])) (symbols (merged (fill w c (halved a x))))) →
    Begins (solid c (high w a) ++ (symbol_of c ∷ [])) (symbols (merged (fill w c (halved a x))))
unfolding solid merged_of symbols
turns_high c w a m x e (same i) g k = rw (e, i) (k (g ∙ join_leaves c))
turns_high c w a m x e (other i j) g k =
    let z = stays (fill_fills w c (halved a x)) m (leaf c) (g ∙ j) in
    rw (e, i) (subst (λ y. Begins y (symbols (merged (fill w c (halved a x))))) (high_text (merged_of w) (symbols m) (symbol_of c ∷ [])) z)

pub turns : (c : Colour) (w : Way) (x : Shape) → merged x ≡ leaf c → Begins (solid c w ++ (symbol_of c ∷ [])) (symbols (merged (fill w c x)))
unfolding solid merged fill symbols
turns c top x e = record { rest = []; is = ap symbols e }
turns c (low w) x e = turns c w (halved x (leaf c)) (ap (λ z. join z (leaf c)) e ∙ join_leaves c)
turns c (high w a) x e = turns_high c w a (merged a) x refl (toward c (merged a)) (ap (join (merged a)) e) (turns c w (halved a x))

-- ---- what is held at a way

unfoldable pub held_at : Way → ℕ
held_at w = max (run Black w) (run White w)

pub run_held : (c : Colour) (w : Way) → run c w ≤ held_at w
unfolding held_at
run_held Black w = le-max_left (run Black w) (run White w)
run_held White w = le-max_right (run Black w) (run White w)

pub split_length : (c : Colour) (w : Way) → length (merged_of w) ≡ length (solid c w) + run c w
split_length c w = let s = split c w in omega (arith, ap length s.is, length-append (solid c w) s.loose, s.size)

pub held_within : (w : Way) → held_at w ≤ length (merged_of w)
unfolding held_at
held_within w = max-le (omega (arith, split_length Black w)) (omega (arith, split_length White w))

-- the beginning that is not held is a beginning of the solid part
take_solid : (c : Colour) (w : Way) (n : ℕ) → n + held_at w ≤ length (merged_of w) → take n (merged_of w) ≡ take n (solid c w)
take_solid c w n h =
    let s = split c w in
    ap (take n) s.is ∙ take-append-le n (solid c w) s.loose (omega (arith, split_length c w, run_held c w))

-- so it begins the merged expression of whatever fills the way
pub fixed_fills :
    {w : Way} {x s : Shape} (m : Shape) → merged x ≡ m → Fills w x s → (n : ℕ) → n + held_at w ≤ length (merged_of w) →
    Begins (take n (merged_of w)) (symbols (merged s))
fixed_fills {w} {x} {s} (leaf c) e f n h = subst (λ z. Begins z (symbols (merged s))) (sym (take_solid c w n h)) (begins_take n (keeps c f e))
fixed_fills {w} {x} {s} (halved u v) e f n h = begins_take n (begins_append (merged_of w) (symbols (halved u v)) (stays f u v e))

-- and no longer one does: by the way filled with one colour
unlike : (c : Colour) (p u v z : List ℕ) → z ≡ p ++ (symbol_of c ∷ u) → z ≡ p ++ (open_symbol ∷ v) → ⊥
unlike c p u v z e f =
    symbol_not_open c (sym (get_or-append_seam p (symbol_of c) u 0) ∙ ap (λ k. get_or k (length p) 0) (sym e ∙ f) ∙ get_or-append_seam p open_symbol v 0)

clash :
    {m : List ℕ} (c : Colour) (p z : List ℕ) (n : ℕ) → Calm m → Begins (p ++ (symbol_of c ∷ [])) z → n ≤ length (p ++ m) → Begins (take n (p ++ m)) z →
    n ≤ length p
clash c p z n empty b h k = omega (arith, length-append p [])
clash c p z n (opens m) b h k = go (dec_lt (length p) n)
  where
    go : Dec (length p < n) → n ≤ length p
    go (no l) = omega arith
    go (yes l) =
        let d : n ≡ length p + suc (n - length p - 1) = omega arith in
        let t = take (n - length p - 1) m in
        let e : take n (p ++ (open_symbol ∷ m)) ≡ p ++ (open_symbol ∷ t) =
        ap (λ i. take i (p ++ (open_symbol ∷ m))) d ∙ take-append-add p (open_symbol ∷ m) (suc (n - length p - 1)) in
        let f = k.is ∙ ap (λ y. y ++ k.rest) e ∙ append_assoc p (open_symbol ∷ t) k.rest in
        absurd (unlike c p b.rest (t ++ k.rest) z (b.is ∙ append_assoc p (symbol_of c ∷ []) b.rest) f)

module _ (u : Universe) {w : Way} {x s : Shape} (f : Fills w x s) (deep : depth s ≤ levels u) where
  fixed_at : (n : ℕ) → n + held_at w ≤ length (merged_of w) → Fixed u (text_of w) n
  fixed_at n h =
      record {
        within = rw (merged_way w) (omega arith);
        always = λ more ex.
            let z = spelt u (text_of w ++ more) ex in
            let g = filled w more z.shape z.is in
            rw (merged_way w, z.merges) (fixed_fills (merged g.by) refl g.fills n h);
      }

  no_longer : (n : ℕ) (c : Colour) → Fixed u (text_of w) n → n + run c w ≤ length (merged_of w)
  unfolding merged depth
  no_longer n c fx =
      let y = fill w c (leaf c) in
      let t = fills_text (fill_fills w c (leaf c)) in
      let e : text_of w ++ (symbols (leaf c) ++ t.rest) ≡ symbols y = sym (t.is ∙ append_assoc (text_of w) (symbols (leaf c)) t.rest) in
      let d : depth y ≤ depth s = fill_depth c (leaf c) f (omega arith) in
      let v : depth y ≤ levels u = omega arith in
      let k = fx.always (symbols (leaf c) ++ t.rest) (spelt_accepted u y v e) in
      let l : Begins (take n (merged_of w)) (symbols (merged y)) = rw (merged_way w, spelt_merges u y v e) at k in
      let p = split c w in
      let h : n ≤ length (merged_of w) = rw (merged_way w) at fx.within in
      let r : n ≤ length (solid c w) = clash c (solid c w) (symbols (merged y)) n p.calm (turns c w (leaf c) refl) (rw p.is at h) (rw p.is at l) in
      omega (arith, split_length c w)

  -- THEOREM: what is held at a way
  pub held_way : Held u (text_of w) (held_at w)
  unfolding held_at
  held_way =
      record {
        within = rw (merged_way w) (held_within w);
        fixed = rw (merged_way w) (fixed_at (length (merged_of w) - held_at w) (omega (arith, held_within w)));
        longest = λ n fx. rw (merged_way w) (omega (arith, no_longer n Black fx, no_longer n White fx));
      }
