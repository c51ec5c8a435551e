-- What the checks of a mover's Box, corners and keys cite: the numbers of a displacement, whether the Box is taken, and the frames.
use Prim.Native.Nat.{ℕ, ◌≤◌}
use native.Mathlib.Omega.{arith}
use native.Mathlib.Nat.{le_trans}
use native.Mathlib.Decide.{ℕ_discrete}
use mathlib.Core.Path.{◌≡◌, refl, sym, ap, ◌∙◌}
use mathlib.Core.Bool.{Bool, true, false, cond, ◌&&◌}
use borrow.Author.Tests.{ne_eqb}
use lib.Dec.{eqb, lit≤}
use lib.Ieee.{Float}
use lib.IntN.{ℤ, pos, negsuc, nat_abs}
use mir.Syntax.{w64}
use mir.Val.{to_z, of_z}
use Rattle.std.specs.Prelude.{Option, Some, None}
use Rattle.std.specs.Option.{is_some}
use Rattle.lemmas.proofs.Machine.{near}
use Rattle.universe.specs.Refusals.{bad_proxy}
use Rattle.standin.specs.declared.Triple.{Triple}
use Rattle.standin.specs.declared.Solid.{Solid}
use Rattle.standin.specs.declared.Solid.TheVariants.{Box, Cut}
use Rattle.standin.specs.declared.Proxy.{Proxy}
use Rattle.standin.specs.declared.Numbers.{Numbers}
use Rattle.standin.specs.Sixteenths.{sixteenths, is_taken, corner_limit, normal_limit}
use Rattle.standin.specs.Rows.{numbers_of, takes_triple, takes_box, scaled_triple, corner_sixteenths, solid_box_count, box_row_count}
use Rattle.standin.specs.Held.{Limited}
use Rattle.standin.proofs.Parts.{parts, box_parts}
use Rattle.standin.proofs.Held.{triple_small}
use Rattle.standin.proofs.Theorems.{taken_exactly}
use Rattle.mover.specs.Keys.{is_still, takes_still, still_refusal}

-- ---- one number: 0 or not, and taken within a wider limit
zero_told : (z : ℤ) → nat_abs z ≤ corner_limit → eqb (of_z w64 z) 0 ≡ eqb (nat_abs z) 0
zero_told z h = go (ℕ_discrete (of_z w64 z) 0)
  where
    none : (y : ℤ) → nat_abs y ≡ 0 → of_z w64 y ≡ 0
    none (pos n) e = e
    none (negsuc n) e = absurd (omega arith)

    go : Dec (of_z w64 z ≡ 0) → eqb (of_z w64 z) 0 ≡ eqb (nat_abs z) 0
    go (yes e) = let s : z ≡ pos 0 = sym (near (record { most = h }) tt).same ∙ ap (to_z w64) e in rw s
    go (no n) = rw (ne_eqb (of_z w64 z) 0 n, ne_eqb (nat_abs z) 0 (λ e. n (none z e)))

taken_wider : (limit wide : ℕ) (x : Float) → limit ≤ wide → is_taken limit x ≡ true → is_taken wide x ≡ true
taken_wider limit wide x l t =
    let m = (taken_exactly limit x).0 t in
    (taken_exactly wide x).1 (record { finite = m.finite; count = m.count; exact = m.exact; limited = le_trans m.limited l })

pub step_taken : (v : Triple) → takes_triple normal_limit v ≡ true → takes_triple corner_limit v ≡ true
unfolding takes_triple
step_taken v t =
    let p = parts normal_limit v t in
    let wide : (x : Float) → is_taken normal_limit x ≡ true → is_taken corner_limit x ≡ true = λ x. taken_wider normal_limit corner_limit x (lit≤ tt) in
    rw (wide v.x p.x, wide v.y p.y, wide v.z p.z)

-- ---- the numbers of a triple that is taken
module _ (p : Triple) (t : takes_triple corner_limit p ≡ true) {r : Option Numbers} (e : r ≡ corner_sixteenths p) where
  pub triple_some : r ≡ Some (numbers_of p)
  unfolding scaled_triple
  triple_some = e ∙ rw t

  pub triple_is : {n : Numbers} → r ≡ Some n → n ≡ numbers_of p
  triple_is f = let g = triple_some in cc

  pub triple_limited : {n : Numbers} → r ≡ Some n → Limited corner_limit n
  triple_limited f = rw (triple_is f) (triple_small corner_limit p t)

pub zeros_told : (v : Triple) {r : Option Numbers} {n : Numbers} → takes_triple normal_limit v ≡ true → r ≡ corner_sixteenths v → r ≡ Some n →
    eqb (of_z w64 n.x) 0 && eqb (of_z w64 n.y) 0 && eqb (of_z w64 n.z) 0 ≡ is_still v
unfolding is_still
zeros_told v t e f =
    let h = triple_small corner_limit v (step_taken v t) in
    rw (triple_is v (step_taken v t) e f, zero_told (sixteenths v.x) h.x, zero_told (sixteenths v.y) h.y, zero_told (sixteenths v.z) h.z)

-- one number three times is taken where it is
pub alike_told : (x : Float) → is_some (corner_sixteenths (record { x = x; y = x; z = x })) ≡ is_taken corner_limit x
unfolding scaled_triple takes_triple
alike_told x = go (is_taken corner_limit x)
  where
    go : (b : Bool) → is_some {T = Numbers} (cond (b && b && b) (Some (numbers_of (record { x = x; y = x; z = x }))) None) ≡ b
    go true = refl
    go false = refl

-- ---- `still_refusal`: there are rows where the Box is taken
no_rows : (s : Solid) (v : Triple) → solid_box_count s v ≡ 0 → takes_still s v ≡ false
unfolding takes_still
no_rows (Box c) v e = go (takes_box c v) e
  where
    go : (b : Bool) → ◌≡◌ {A = ℕ} (cond b 6 0) 0 → b && is_still v ≡ false
    go true f = absurd (omega arith)
    go false f = refl
no_rows (Cut p) v e = refl

record SomeRows (s : Solid) (v : Triple) : Type 0 where
  displacement : takes_triple normal_limit v ≡ true
  still : takes_still s v ≡ is_still v

some_rows : (s : Solid) (v : Triple) → (solid_box_count s v ≡ 0 → ⊥) → SomeRows s v
unfolding takes_still
some_rows (Box c) v n = go (takes_box c v) refl
  where
    go : (b : Bool) → takes_box c v ≡ b → SomeRows (Box c) v
    go true t = record { displacement = (box_parts c v t).displacement; still = rw t }
    go false t = absurd (n (rw t))
some_rows (Cut p) v n = absurd (n refl)

module _ (p : Proxy) {n : ℕ} (e : n ≡ box_row_count p) where
  pub still_none : n ≡ 0 → bad_proxy ≡ still_refusal p
  unfolding still_refusal
  still_none z = rw (no_rows p.solid p.displacement (sym e ∙ z))

  module _ (some : n ≡ 0 → ⊥) where
    pub still_asks : takes_triple normal_limit p.displacement ≡ true
    still_asks = (some_rows p.solid p.displacement (λ z. some (e ∙ z))).displacement

    pub still_is : {b : Bool} → b ≡ is_still p.displacement → b ≡ true → 0 ≡ still_refusal p
    unfolding still_refusal
    still_is f t = rw ((some_rows p.solid p.displacement (λ z. some (e ∙ z))).still, ← f, t)

    pub still_not : {b : Bool} → b ≡ is_still p.displacement → b ≡ false → bad_proxy ≡ still_refusal p
    unfolding still_refusal
    still_not f t = rw ((some_rows p.solid p.displacement (λ z. some (e ∙ z))).still, ← f, t)
