-- Verdicts over a window, both ends in: Clear exactly where no frame of the window has a black voxel, and otherwise Hit with the first and the
-- last frame that has one and the sum of all. Frames are named by any test, and a window of n frames by its first.
use mathlib.Core.Path.{◌≡◌, refl, sym, ap, ◌∙◌}
use mathlib.Core.List.{List}
use mathlib.Core.Bool.{Bool, true, false, cond}
use Prim.Native.Nat.{ℕ, zero, suc, ◌+◌, ◌-◌, ◌≤◌, ◌<◌}
use native.Mathlib.Decide.{dec_lt}
use native.Mathlib.Omega.{arith}
use borrow.Author.Tests.{ltb-true, ltb-false, lt-ltb, le-ltb}
use Rattle.lemmas.specs.Sums.{sum}
use Rattle.lemmas.proofs.Sums.{sum_zero, sum_part}
use Rattle.universe.specs.declared.Universe.{Universe}
use Rattle.universe.specs.Universe.{universe_refusal}
use Rattle.universe.specs.Voxel.{window_refusal}
use Rattle.bintree.specs.declared.Contact.{Contact}
use Rattle.bintree.specs.declared.Verdict.TheVariants.{Clear, Hit}
use Rattle.bintree.specs.Shape.{Shape}
use Rattle.bintree.specs.Reading.{read, expression}
use Rattle.bintree.specs.Counts.{volume, voxels_at}
use Rattle.bintree.specs.Verdicts.{window_length, first_frame, last_frame, voxels_in, is_hit, verdict, refused_numbers, done_numbers, numbers_answer}
use Rattle.bintree.proofs.Answers.{answer_last}

-- both ends are in: a window of one frame has one, and its frames are first to last
pub one_frame : (c : ℕ) → window_length c c ≡ 1
one_frame c = omega arith

pub window_frame : (first last c : ℕ) → first ≤ c → c ≤ last → c - first < window_length first last
window_frame first last c h k = omega arith

pub frame_window : (first last c : ℕ) → first ≤ last → c < window_length first last → first + c ≤ last
frame_window first last c h k = omega arith

-- the first of n frames that a test names, where it names one of them: it names that, and none before
module _ (named : ℕ → Bool) where
  pub record IsFirst (frame n c : ℕ) : Type 0 where
    pub from : frame ≤ c
    pub below : c < frame + n
    pub names : named c ≡ true
    pub none : (e : ℕ) → frame ≤ e → e < c → named e ≡ false

  pub record IsLast (frame n c : ℕ) : Type 0 where
    pub from : frame ≤ c
    pub below : c < frame + n
    pub names : named c ≡ true
    pub none : (e : ℕ) → c < e → e < frame + n → named e ≡ false

  -- one of the n frames is named
  pub record Names (frame n : ℕ) : Type 0 where
    pub which : ℕ
    pub from : frame ≤ which
    pub below : which < frame + n
    pub names : named which ≡ true

  not_named : (frame : ℕ) (w : ℕ) → named frame ≡ false → named w ≡ true → w ≡ frame → ⊥
  not_named frame w e f g = let z : ◌≡◌ {A = ℕ} 0 1 = cc (ap named g) in omega arith

  same_frame : (e c : ℕ) → e ≡ c → named c ≡ false → named e ≡ false
  same_frame e c f g = ap named f ∙ g

  pub first_is : (frame n : ℕ) → Names frame n → IsFirst frame n (first_frame named frame n)
  unfolding first_frame
  first_is frame zero w = absurd (omega (arith, w.from, w.below))
  first_is frame (suc n) w = go (named frame) refl (first_is (suc frame) n)
    where
      later : (m c : ℕ) → named frame ≡ false → ((e : ℕ) → suc frame ≤ e → e < m → named e ≡ false) → frame ≤ c → c < m → Dec (frame < c) → named c ≡ false
      later m c e h k l (yes d) = h c d l
      later m c e h k l (no d) = same_frame c frame (omega arith) e

      go :
          (b : Bool) → named frame ≡ b → (Names (suc frame) n → IsFirst (suc frame) n (first_frame named (suc frame) n)) →
          IsFirst frame (suc n) (cond b frame (first_frame named (suc frame) n))
      go true e ih = record { from = omega arith; below = omega arith; names = e; none = λ c h k. absurd (omega arith) }
      go false e ih =
          let f = not_named frame w.which e w.names in
          let v = ih (record { which = w.which; from = omega (arith, w.from); below = omega (arith, w.below); names = w.names }) in
          record {
            from = omega (arith, v.from);
            below = omega (arith, v.below);
            names = v.names;
            none = λ c h k. later (first_frame named (suc frame) n) c e v.none h k (dec_lt frame c);
          }

  pub last_is : (frame n : ℕ) → Names frame n → IsLast frame n (last_frame named frame n)
  unfolding last_frame
  last_is frame zero w = absurd (omega (arith, w.from, w.below))
  last_is frame (suc n) w = go (named (frame + n)) refl (last_is frame n)
    where
      earlier :
          (m c : ℕ) → named (frame + n) ≡ false → ((e : ℕ) → m < e → e < frame + n → named e ≡ false) → m < c → c < frame + suc n → Dec (c < frame + n) →
          named c ≡ false
      earlier m c e h k l (yes d) = h c k d
      earlier m c e h k l (no d) = same_frame c (frame + n) (omega arith) e

      go :
          (b : Bool) → named (frame + n) ≡ b → (Names frame n → IsLast frame n (last_frame named frame n)) →
          IsLast frame (suc n) (cond b (frame + n) (last_frame named frame n))
      go true e ih = record { from = omega arith; below = omega arith; names = e; none = λ c h k. absurd (omega arith) }
      go false e ih =
          let f = not_named (frame + n) w.which e w.names in
          let v = ih (record { which = w.which; from = w.from; below = omega (arith, w.below); names = w.names }) in
          record {
            from = v.from;
            below = omega (arith, v.below);
            names = v.names;
            none = λ c h k. earlier (last_frame named frame n) c e v.none h k (dec_lt c (frame + n));
          }

-- a sum above 0 has a place above 0
some_place : (n : ℕ) (f : ℕ → ℕ) → 0 < sum n f → (i : ℕ) × (i < n) × (0 < f i)
unfolding sum
some_place zero f h = absurd (omega arith)
some_place (suc n) f h = go (dec_lt 0 (f n)) (some_place n f)
  where
    go : Dec (0 < f n) → (0 < sum n f → (i : ℕ) × (i < n) × (0 < f i)) → (i : ℕ) × (i < suc n) × (0 < f i)
    go (yes k) ih = (n, omega arith, k)
    go (no k) ih = let w = ih (omega arith) in (w.0, omega (arith, w.1), w.2)

-- what a Hit says of its window
pub record HitIn (u : Universe) (s : Shape) (first last : ℕ) (contact : Contact) : Type 0 where
  pub first_from : first ≤ contact.first
  pub first_to : contact.first ≤ last
  pub first_black : 0 < voxels_at u s contact.first
  pub none_before : (c : ℕ) → first ≤ c → c < contact.first → voxels_at u s c ≡ 0
  pub last_from : first ≤ contact.last
  pub last_to : contact.last ≤ last
  pub last_black : 0 < voxels_at u s contact.last
  pub none_after : (c : ℕ) → contact.last < c → c ≤ last → voxels_at u s c ≡ 0
  pub count : contact.voxels ≡ sum (window_length first last) (λ c. voxels_at u s (first + c))

module _ (u : Universe) (s : Shape) (first last : ℕ) where
  -- the contact of a window that has a black voxel
  abbrev contact_in : Contact
  contact_in =
      record {
        first = first_frame (is_hit u s) first (window_length first last);
        last = last_frame (is_hit u s) first (window_length first last);
        voxels = voxels_in u s first last;
      }

  verdict_none : voxels_in u s first last ≡ 0 → verdict u s first last ≡ Clear
  unfolding verdict
  verdict_none e = rw (le-ltb 0 (voxels_in u s first last) (omega arith))

  verdict_some : 0 < voxels_in u s first last → verdict u s first last ≡ Hit contact_in
  unfolding verdict
  verdict_some h = rw (lt-ltb 0 (voxels_in u s first last) h)

  frame_most : (c : ℕ) → first ≤ c → c ≤ last → voxels_at u s c ≤ voxels_in u s first last
  unfolding voxels_in
  frame_most c h k =
      let e : first + (c - first) ≡ c = omega arith in
      rw e at (sum_part (window_length first last) (λ c. voxels_at u s (first + c)) (c - first) (omega arith))

  -- THEOREM: Clear exactly where every frame of the window, both ends in, has no black voxel
  pub none_clear : ((c : ℕ) → first ≤ c → c ≤ last → voxels_at u s c ≡ 0) → verdict u s first last ≡ Clear
  unfolding voxels_in
  none_clear h = verdict_none (sum_zero (window_length first last) (λ c. voxels_at u s (first + c)) (λ c k. h (first + c) (omega arith) (omega arith)))

  pub clear_none : verdict u s first last ≡ Clear → (c : ℕ) → first ≤ c → c ≤ last → voxels_at u s c ≡ 0
  clear_none e c h k = go (dec_lt 0 (voxels_in u s first last))
    where
      go : Dec (0 < voxels_in u s first last) → voxels_at u s c ≡ 0
      go (yes d) = let f = verdict_some d in let z : ◌≡◌ {A = ℕ} 0 1 = cc in absurd (omega arith)
      go (no d) = omega (arith, frame_most c h k)

  -- THEOREM: otherwise Hit, with the first and the last black frame and all black voxels
  named_black : (c : ℕ) → is_hit u s c ≡ true → 0 < voxels_at u s c
  named_black c e = ltb-true 0 (voxels_at u s c) e

  unnamed_none : (c : ℕ) → is_hit u s c ≡ false → voxels_at u s c ≡ 0
  unnamed_none c e = omega (arith, ltb-false 0 (voxels_at u s c) e)

  names_some : 0 < voxels_in u s first last → Names (is_hit u s) first (window_length first last)
  unfolding voxels_in
  names_some h =
      let w = some_place (window_length first last) (λ c. voxels_at u s (first + c)) h in
      record { which = first + w.0; from = omega arith; below = omega (arith, w.1); names = lt-ltb 0 (voxels_at u s (first + w.0)) w.2 }

  contact_hit : 0 < voxels_in u s first last → HitIn u s first last contact_in
  unfolding voxels_in
  contact_hit h =
      let v = first_is (is_hit u s) first (window_length first last) (names_some h) in
      let w = last_is (is_hit u s) first (window_length first last) (names_some h) in
      record {
        first_from = v.from;
        first_to = omega (arith, v.from, v.below);
        first_black = named_black contact_in.first v.names;
        none_before = λ c i j. unnamed_none c (v.none c i j);
        last_from = w.from;
        last_to = omega (arith, w.from, w.below);
        last_black = named_black contact_in.last w.names;
        none_after = λ c i j. unnamed_none c (w.none c i (omega (arith, w.from)));
        count = refl;
      }

  pub some_hit : (c : ℕ) → first ≤ c → c ≤ last → 0 < voxels_at u s c → (contact : Contact) × (verdict u s first last ≡ Hit contact)
  some_hit c h k b = (contact_in, verdict_some (omega (arith, frame_most c h k)))

  pub hit_is : (contact : Contact) → verdict u s first last ≡ Hit contact → HitIn u s first last contact
  hit_is contact e = go (dec_lt 0 (voxels_in u s first last))
    where
      go : Dec (0 < voxels_in u s first last) → HitIn u s first last contact
      go (yes d) = let f = verdict_some d in let g : contact_in ≡ contact = cc in rw (← g) (contact_hit d)
      go (no d) = let f = verdict_none (omega arith) in let z : ◌≡◌ {A = ℕ} 0 1 = cc in absurd (omega arith)

-- a window of one frame
pub one_clear : (u : Universe) (s : Shape) (c : ℕ) → voxels_at u s c ≡ 0 → verdict u s c c ≡ Clear
one_clear u s c h = none_clear u s c c (λ e i j. let f : e ≡ c = omega arith in ap (voxels_at u s) f ∙ h)

contact_eq :
    (contact : Contact) (a b n : ℕ) → contact.first ≡ a → contact.last ≡ b → contact.voxels ≡ n → contact ≡ record { first = a; last = b; voxels = n }
contact_eq contact a b n e f g = λ i. record { first = e i; last = f i; voxels = g i }

one_sum : (c : ℕ) (f : ℕ → ℕ) → sum (window_length c c) (λ e. f (c + e)) ≡ f c
unfolding sum
one_sum c f =
    let z : c + 0 ≡ c = omega arith in
    ap (λ n. sum n (λ e. f (c + e))) (one_frame c) ∙ omega (arith, ap f z)

pub one_hit : (u : Universe) (s : Shape) (c : ℕ) → 0 < voxels_at u s c → verdict u s c c ≡ Hit (record { first = c; last = c; voxels = voxels_at u s c })
one_hit u s c h =
    let w = some_hit u s c c c (omega arith) (omega arith) h in
    let v = hit_is u s c c w.0 w.1 in
    let e : w.0.first ≡ c = omega (arith, v.first_from, v.first_to) in
    let f : w.0.last ≡ c = omega (arith, v.last_from, v.last_to) in
    w.1 ∙ ap Hit (contact_eq w.0 c c (voxels_at u s c) e f (v.count ∙ one_sum c (voxels_at u s)))

-- THEOREM: a well-formed expression's numbers over a window of its universe are its shape's
pub numbers_accepted :
    (u : Universe) (s : List ℕ) (first last : ℕ) (a : Shape) → universe_refusal u ≡ 0 → expression u s ≡ read a → window_refusal u first last ≡ 0 →
    numbers_answer u s first last ≡ done_numbers (volume u a) (verdict u a first last)
unfolding numbers_answer
numbers_accepted u s first last a ok x w =
    sym (answer_last u 0 (sym ok) refused_numbers _ (done_numbers (volume u a) (verdict u a first last)) s (window_refusal u first last) a refl x (rw (w, x)))
