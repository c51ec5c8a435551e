-- What the machine computes of a halfspace's least and greatest value over a half. The amount, a coefficient times half a length, is small, as a product or
-- shifted; where it is not negative all of it rises and nothing falls, else the other way round.
use Prim.Native.Nat.{ℕ, zero, suc, ◌+◌, ◌*◌, ◌^◌, ◌≤◌, ◌<◌}
use mathlib.Core.Path.{◌≡◌, refl, sym, ap, ◌∙◌}
use mathlib.Core.Bool.{Bool, true, false, cond}
use native.Mathlib.Omega.{arith}
use borrow.Author.Tests.{lt-ltb, le-leb}
use lib.IntN.{ℤ, pos, negsuc, nat_abs, ◌+ℤ◌, ◌-ℤ◌, ◌*ℤ◌}
use lib.Signed.{le_z}
use mir.Syntax.{w64}
use mir.Val.{SFits, to_z, of_z}
use Rattle.std.specs.Int.{int_min}
use Rattle.lemmas.proofs.Machine.{Near, near, near_cast, near_lit, near_add, near_sub, near_mul, near_back, near_fits}
use Rattle.lemmas.proofs.Whole.{up, dn, one_part, Is, is_nat, is_self, is_add, is_sub, is_mul, is_eq, le_is, lt_is, le_z_true, le_z_false}
use Rattle.universe.specs.Universe.{longest_side}
use Rattle.csg.specs.Halfspace.{lesser}
use Rattle.csg.proofs.Extremes.{above_is, below_is}
use Rattle.convert.specs.Codes.{tested_code}
use Rattle.convert.specs.Small.{SmallCoefficient, SmallPlace}
use Rattle.pruned.specs.Nodes.{rises, falls, moved_least, moved_greatest, extreme_limit, SmallExtreme, amount_limit, SmallAmount, MovedBy, moved_towards}
use Rattle.pruned.specs.Nodes.{doubled, value_code}
use Rattle.pruned.proofs.Doublings.{doubled_none, doubled_few}

-- what the machine reads of a number that it holds
abbrev pub held : ℤ → ℤ
held z = to_z w64 (of_z w64 z)

pub extreme_near : {x : ℤ} → SmallExtreme x → Near (held x) x extreme_limit
extreme_near s = near (record { most = s.most }) tt

-- ---- what rises and what falls, by the amount
module _ (a : ℤ) (half : ℕ) where
  amount_is : Is (a *ℤ pos half) (up a * half) (dn a * half)
  amount_is = is_mul (is_self a) half

  pub rise_is : Is (rises a half) (up a * half) 0
  rise_is = record { is = omega (arith, (is_mul (above_is a) half).is) }

  pub fall_is : Is (falls a half) 0 (dn a * half)
  fall_is = record { is = omega (arith, (is_mul (below_is a) half).is) }

  parts : (P : Type 0) → (up a * half ≡ 0 → P) → (dn a * half ≡ 0 → P) → P
  parts P f g = one_part a P (λ e. g (rw e (omega arith))) (λ e. f (rw e (omega arith)))

  pub rises_all : le_z (pos 0) (a *ℤ pos half) ≡ true → (rises a half ≡ a *ℤ pos half) × (falls a half ≡ pos 0)
  rises_all t =
      let le = le_is (is_nat 0) amount_is (le_z_true _ _ t) in
      parts _
      (λ e. (is_eq rise_is amount_is (omega (arith, le)), is_eq fall_is (is_nat 0) (omega (arith, le))))
      (λ e. (is_eq rise_is amount_is (omega (arith, le)), is_eq fall_is (is_nat 0) (omega (arith, le))))

  pub falls_all : le_z (pos 0) (a *ℤ pos half) ≡ false → (rises a half ≡ pos 0) × (falls a half ≡ a *ℤ pos half)
  falls_all t =
      let lt = lt_is amount_is (is_nat 0) (le_z_false _ _ t) in
      parts _
      (λ e. (is_eq rise_is (is_nat 0) (omega (arith, lt)), is_eq fall_is amount_is (omega (arith, lt))))
      (λ e. (is_eq rise_is (is_nat 0) (omega (arith, lt)), is_eq fall_is amount_is (omega (arith, lt))))

-- adding and taking nothing
pub plus_nothing : (x : ℤ) → x +ℤ pos 0 ≡ x
plus_nothing x = is_eq (is_add (is_self x) (is_nat 0)) (is_self x) (omega arith)

pub less_nothing : (x : ℤ) → x -ℤ pos 0 ≡ x
less_nothing x = is_eq (is_sub (is_self x) (is_nat 0)) (is_self x) (omega arith)

-- a length of 0 moves nothing
pub rises_none : (a : ℤ) → rises a 0 ≡ pos 0
rises_none a = is_eq (rise_is a 0) (is_nat 0) (omega arith)

pub falls_none : (a : ℤ) → falls a 0 ≡ pos 0
falls_none a = is_eq (fall_is a 0) (is_nat 0) (omega arith)

least_none : (high : Bool) (a x : ℤ) → x ≡ moved_least high a 0 x
least_none true a x = sym (plus_nothing x) ∙ ap (λ (z : ℤ). x +ℤ z) (sym (rises_none a))
least_none false a x = sym (less_nothing x) ∙ ap (λ (z : ℤ). x -ℤ z) (sym (falls_none a))

greatest_none : (high : Bool) (a x : ℤ) → x ≡ moved_greatest high a 0 x
greatest_none true a x = sym (plus_nothing x) ∙ ap (λ (z : ℤ). x +ℤ z) (sym (falls_none a))
greatest_none false a x = sym (less_nothing x) ∙ ap (λ (z : ℤ). x -ℤ z) (sym (rises_none a))

-- ---- as the machine computes it: the amount, and the values moved by it
module _ {a : ℤ} {half : ℕ} (sa : SmallCoefficient a) (sh : SmallPlace half) where
  amount_near : Near (held a *ℤ to_z w64 half) (a *ℤ pos half) amount_limit
  amount_near = near_mul {x = a} {y = pos half} (near (record { most = sa.most }) tt) (near_cast half longest_side sh.most tt)

  pub amount_held : held (held a *ℤ to_z w64 half) ≡ a *ℤ pos half
  amount_held = (near_back {x = a *ℤ pos half} amount_near tt).same

  pub amount_small : SmallAmount (a *ℤ pos half)
  amount_small = record { most = amount_near.size }

  module _ {m : ℤ} (m_is : m ≡ a *ℤ pos half) {x y : ℤ} (sx : SmallExtreme x) (sy : SmallExtreme y) where
    pub by_asks : SmallAmount m × (SmallExtreme (held x) × SmallExtreme (held y))
    by_asks = rw (m_is, (extreme_near sx).same, (extreme_near sy).same) (amount_small, (sx, sy))

    pub by_is : {high : Bool} {v w : ℤ} → MovedBy m high (held x) (held y) v w → (v ≡ moved_least high a half x) × (w ≡ moved_greatest high a half y)
    by_is {high = high} e =
        let o = e.over a half m_is in
        (o.0 ∙ ap (moved_least high a half) (extreme_near sx).same, o.1 ∙ ap (moved_greatest high a half) (extreme_near sy).same)

  -- as a product
  module _ {x y : ℤ} (sx : SmallExtreme x) (sy : SmallExtreme y) where
    pub amount_asks : SmallAmount (held (held a *ℤ to_z w64 half)) × (SmallExtreme (held x) × SmallExtreme (held y))
    amount_asks = by_asks amount_held sx sy

    pub moved_is : {high : Bool} {v w : ℤ} → MovedBy (held (held a *ℤ to_z w64 half)) high (held x) (held y) v w →
        (v ≡ moved_least high a half x) × (w ≡ moved_greatest high a half y)
    moved_is e = by_is amount_held sx sy e

-- shifted
module _ {a : ℤ} {times : ℕ} (sa : SmallCoefficient a) (sh : SmallPlace (doubled times)) (few : times < 64) where
  length_is : doubled times ≡ 2 ^ times
  length_is = doubled_few few

  module _ {m : ℤ} (told : m ≡ held a *ℤ pos (2 ^ times)) where
    m_is : m ≡ a *ℤ pos (doubled times)
    m_is = rw length_is (told ∙ ap (λ (z : ℤ). z *ℤ pos (2 ^ times)) (near {x = a} (record { most = sa.most }) tt).same)

    m_held : held m ≡ a *ℤ pos (doubled times)
    m_held = ap held m_is ∙ (near (record { most = (amount_small sa sh).most }) tt).same

    module _ {x y : ℤ} (sx : SmallExtreme x) (sy : SmallExtreme y) where
      pub shift_moves : SmallAmount (held m) × (SmallExtreme (held x) × SmallExtreme (held y))
      shift_moves = by_asks sa sh m_held sx sy

      pub shift_moved : {high : Bool} {v w : ℤ} → MovedBy (held m) high (held x) (held y) v w →
          (v ≡ moved_least high a (doubled times) x) × (w ≡ moved_greatest high a (doubled times) y)
      shift_moved e = by_is sa sh m_held sx sy e

-- where there is no half
pub unmoved : (a : ℤ) {times : ℕ} (high : Bool) (x y : ℤ) → 64 ≤ times →
    (x ≡ moved_least high a (doubled times) x) × (y ≡ moved_greatest high a (doubled times) y)
unmoved a {times} high x y h = rw (doubled_none h) (least_none high a x, greatest_none high a y)

-- ---- the amount towards a half: its two parts, and the values moved by what falls of it and by what is left
two_parts : {z : ℤ} {p n : ℕ} → Is z p n → ((P : Type 0) → (p ≡ 0 → P) → (n ≡ 0 → P) → P) → (up z ≡ p) × (dn z ≡ n)
two_parts {z} i one =
    let e = i.is in
    one _
    (λ k. one_part z _ (λ d. (omega arith, omega arith)) (λ u. (omega arith, omega arith)))
    (λ k. one_part z _ (λ d. (omega arith, omega arith)) (λ u. (omega arith, omega arith)))

module _ (a : ℤ) (half : ℕ) where
  abbrev toward : Bool → ℤ
  toward high = moved_towards high (a *ℤ pos half)

  high_parts : (up (toward true) ≡ up a * half) × (dn (toward true) ≡ dn a * half)
  high_parts = two_parts (amount_is a half) (parts a half)

  low_parts : (up (toward false) ≡ dn a * half) × (dn (toward false) ≡ up a * half)
  low_parts = two_parts (record { is = omega (arith, (is_sub (is_nat 0) (amount_is a half)).is) }) (λ P f g. parts a half P g f)

  toward_least : (high : Bool) (x : ℤ) → x +ℤ (toward high -ℤ lesser (pos 0) (toward high)) ≡ moved_least high a half x
  toward_least true x =
      is_eq (is_add (is_self x) (is_sub (is_self (toward true)) (below_is (toward true)))) (is_add (is_self x) (rise_is a half))
      (omega (arith, high_parts.0))
  toward_least false x =
      is_eq (is_add (is_self x) (is_sub (is_self (toward false)) (below_is (toward false)))) (is_sub (is_self x) (fall_is a half))
      (omega (arith, low_parts.0))

  toward_greatest : (high : Bool) (y : ℤ) → y +ℤ lesser (pos 0) (toward high) ≡ moved_greatest high a half y
  toward_greatest true y = is_eq (is_add (is_self y) (below_is (toward true))) (is_add (is_self y) (fall_is a half)) (omega (arith, high_parts.1))
  toward_greatest false y = is_eq (is_add (is_self y) (below_is (toward false))) (is_sub (is_self y) (rise_is a half)) (omega (arith, low_parts.1))

-- as the machine tells them
module _ {m : ℤ} (sm : SmallAmount m) where
  by_near : Near (held m) m amount_limit
  by_near = near (record { most = sm.most }) tt

  opposite_near : Near (pos 0 -ℤ held m) (pos 0 -ℤ m) amount_limit
  opposite_near = near_sub {x = pos 0} {y = m} (near_lit (pos 0)) by_near

  towards_size : (high : Bool) → nat_abs (moved_towards high m) ≤ amount_limit
  towards_size true = sm.most
  towards_size false = opposite_near.size

  fall_size : nat_abs (lesser (pos 0) m) ≤ amount_limit
  fall_size = by (le_z (pos 0) m)
    where
      by : (t : Bool) → nat_abs (cond t (pos 0) m) ≤ amount_limit
      by true = omega arith
      by false = sm.most

-- what falls of an amount, as the lesser of it and of nothing
pub min_lesser : (m : ℤ) → int_min m (pos 0) ≡ lesser (pos 0) m
min_lesser (pos zero) = refl
min_lesser (pos (suc n)) = rw (lt-ltb 0 (suc n) (omega arith), le-leb 0 (suc n) (omega arith))
min_lesser (negsuc n) = refl

-- the values moved
module _ {m x y s : ℤ} (high : Bool) (sm : SmallAmount m) (sx : SmallExtreme x) (sy : SmallExtreme y) (se : s ≡ moved_towards high (held m)) where
  abbrev step : ℤ
  step = moved_towards high m

  step_small : SmallAmount step
  step_small = record { most = towards_size sm high }

  step_near : Near (held s) step amount_limit
  step_near = rw (se, (by_near sm).same) (by_near step_small)

  pub step_asks : SmallAmount (held s)
  step_asks = rw step_near.same step_small

  module _ {f : ℤ} (fe : f ≡ lesser (pos 0) (held s)) where
    fall_near : Near (held f) (lesser (pos 0) step) amount_limit
    fall_near = rw (fe, step_near.same) (near (record { most = fall_size step_small }) tt)

    rest_near : Near (held s -ℤ held f) (step -ℤ lesser (pos 0) step) (amount_limit + amount_limit)
    rest_near = near_sub {x = step} {y = lesser (pos 0) step} step_near fall_near

    least_near : Near (held x +ℤ held (held s -ℤ held f)) (x +ℤ (step -ℤ lesser (pos 0) step)) (extreme_limit + (amount_limit + amount_limit))
    least_near = near_add {x = x} {y = step -ℤ lesser (pos 0) step} (extreme_near sx) (near_back {x = step -ℤ lesser (pos 0) step} rest_near tt)

    greatest_near : Near (held y +ℤ held f) (y +ℤ lesser (pos 0) step) (extreme_limit + amount_limit)
    greatest_near = near_add {x = y} {y = lesser (pos 0) step} (extreme_near sy) fall_near

    pub moved_fits : SFits w64 (held s -ℤ held f) × (SFits w64 (held x +ℤ held (held s -ℤ held f)) × SFits w64 (held y +ℤ held f))
    moved_fits = (
      near_fits {x = step -ℤ lesser (pos 0) step} rest_near tt,
      (
        near_fits {x = x +ℤ (step -ℤ lesser (pos 0) step)} least_near tt,
        near_fits {x = y +ℤ lesser (pos 0) step} greatest_near tt,
      ),
    )

    pub moves : MovedBy m high x y (held (held x +ℤ held (held s -ℤ held f))) (held (held y +ℤ held f))
    moves =
        record {
          over = λ a half e. (
            (near_back {x = x +ℤ (step -ℤ lesser (pos 0) step)} least_near tt).same
                ∙ ap (λ (n : ℤ). x +ℤ (moved_towards high n -ℤ lesser (pos 0) (moved_towards high n))) e ∙ toward_least a half high x,
            (near_back {x = y +ℤ lesser (pos 0) step} greatest_near tt).same ∙ ap (λ (n : ℤ). y +ℤ lesser (pos 0) (moved_towards high n)) e
                ∙ toward_greatest a half high y,
          );
        }

-- ---- the code by the two values
module _ {x y : ℤ} (sx : SmallExtreme x) (sy : SmallExtreme y) where
  total_near : Near (held x +ℤ held y) (x +ℤ y) (extreme_limit + extreme_limit)
  total_near = near_add {x = x} {y = y} (extreme_near sx) (extreme_near sy)

  pub block_code : {centre s t : Bool} → centre ≡ false → le_z (pos 0) (held x) ≡ s → le_z (held y) (pos 0) ≡ t → tested_code s t ≡ value_code centre x y
  block_code h e f =
      let p : le_z (pos 0) x ≡ _ = rw (extreme_near sx).same at e in
      let q : le_z y (pos 0) ≡ _ = rw (extreme_near sy).same at f in
      rw (h, p, q)
