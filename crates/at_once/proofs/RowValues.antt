-- A row's value at the centre of a block's first voxel, from the value at its low end that is carried, and its steps, as the machine computes them: sums of
-- small numbers and coefficients doubled, none of which overflows.
use mathlib.Core.Path.{◌≡◌, refl, sym, ap, ◌∙◌, subst}
use mathlib.Core.Bool.{Bool, true, cond}
use mathlib.Core.List.{List, [], ◌∷◌}
use Prim.Native.Nat.{ℕ, zero, suc, ◌+◌, ◌-◌, ◌*◌, ◌^◌, ◌≤◌, ◌<◌}
use native.Mathlib.Omega.{arith}
use native.Mathlib.Nat.{mul-le-mul}
use lib.Dec.{leb, ltb, lit<}
use lib.ListN.{get_or, get_or-eq_default}
use lib.IntN.{ℤ, pos, negsuc, nat_abs, ◌+ℤ◌, ◌*ℤ◌, +ℤ_idr}
use borrow.Author.Tests.{leb-true, le-ltb}
use mir.Syntax.{w64}
use mir.Val.{SFits}
use Rattle.lemmas.specs.Sums.{total, every}
use Rattle.lemmas.proofs.Sums.{and_right, every_all}
use Rattle.lemmas.proofs.Machine.{Near, near, near_lit, near_nat, near_add, near_mul, near_back, near_call, near_fits, near_as, near_size}
use Rattle.lemmas.proofs.Machine.{size_add, size_mul}
use Rattle.lemmas.proofs.Whole.{ι, ν, ◌⊕◌, ◌⊗◌, eq_by}
use Rattle.universe.specs.declared.Universe.{Universe}
use Rattle.universe.specs.Universe.{most_axes, longest_side, offset_limit, coefficient_limit}
use Rattle.csg.specs.Halfspace.{Halfspace, row_at, within_limits, centre_value}
use Rattle.convert.specs.Small.{SmallCoefficient, SmallPlace, SmallHalfspace, SmallPlaces}
use Rattle.pruned.proofs.Moving.{held}
use Rattle.masks.specs.Leaves.{step_limit}
use Rattle.at_once.specs.Words.{word_levels, doublings_of, step_at, term_of, first_value, step_of, RowNamed, SmallTables, StepsOf}
use Rattle.at_once.specs.Values.{along_of}
use Rattle.at_once.specs.Moves.{low_value, low_limit, RowPlaced, ValueOf, RightValues}

abbrev pub term_limit : ℕ
term_limit = 2 * (coefficient_limit * longest_side) + coefficient_limit

-- ---- four small numbers, one for each axis, added up
pub record FourSmall (g : ℕ → ℤ) : Type 0 where
  pub few : (j : ℕ) → j < most_axes → nat_abs (g j) ≤ term_limit

module _ {g : ℕ → ℤ} (small : FourSmall g) {a b c d : ℤ} (p : a ≡ g 0) (q : b ≡ g 1) (r : c ≡ g 2) (s : d ≡ g 3) where
  abbrev two : ℤ
  two = g 0 +ℤ g 1

  abbrev three : ℤ
  three = two +ℤ g 2

  abbrev four : ℤ
  four = three +ℤ g 3

  one_near : (j : ℕ) → j < most_axes → {t : ℤ} → t ≡ g j → Near (held t) (g j) term_limit
  one_near j l e = near_call {x = g j} e (record { same = refl; size = small.few j l }) tt

  two_near : Near (held a +ℤ held b) two (2 * term_limit)
  two_near = near_add {x = g 0} {y = g 1} (one_near 0 (lit< tt) p) (one_near 1 (lit< tt) q)

  three_near : Near (held (held a +ℤ held b) +ℤ held c) three (3 * term_limit)
  three_near = near_add {x = two} {y = g 2} (near_back {x = two} two_near tt) (one_near 2 (lit< tt) r)

  all_near : Near (held (held (held a +ℤ held b) +ℤ held c) +ℤ held d) four (4 * term_limit)
  all_near = near_add {x = three} {y = g 3} (near_back {x = three} three_near tt) (one_near 3 (lit< tt) s)

  pub two_fits : SFits w64 (held a +ℤ held b)
  two_fits = near_fits {x = two} two_near tt

  pub three_fits : SFits w64 (held (held a +ℤ held b) +ℤ held c)
  three_fits = near_fits {x = three} three_near tt

  pub four_fits : SFits w64 (held (held (held a +ℤ held b) +ℤ held c) +ℤ held d)
  four_fits = near_fits {x = four} all_near tt

  pub four_near : Near (held (held (held a +ℤ held b) +ℤ held c) +ℤ held d) (total most_axes g) (4 * term_limit)
  unfolding total
  four_near = near_as {x = four} all_near (from (g 0) (g 1) (g 2) (g 3)) (omega arith)
    where
      from : (a b c d : ℤ) → a +ℤ b +ℤ c +ℤ d ≡ pos 0 +ℤ a +ℤ b +ℤ c +ℤ d
      from a b c d = eq_by (ι a ⊕ ι b ⊕ ι c ⊕ ι d) (ν 0 ⊕ ι a ⊕ ι b ⊕ ι c ⊕ ι d) (omega arith)

  pub four_are : held (held (held (held a +ℤ held b) +ℤ held c) +ℤ held d) ≡ total most_axes g
  four_are = (near_back {x = total most_axes g} four_near tt).same

-- a call's result that is their sum
pub total_near : {g : ℕ → ℤ} → FourSmall g → {t : ℤ} → t ≡ total most_axes g → Near (held t) (total most_axes g) (4 * term_limit)
total_near {g} small e = near_call {x = total most_axes g} e (record { same = refl; size = (four_near small refl refl refl refl).size }) tt

-- ---- a row's value at the low end of a block
-- what an axis gives at the most
abbrev share : ℕ
share = coefficient_limit * longest_side

module _ {h : Halfspace} {low : List ℕ} (small : SmallHalfspace h) (lows : SmallPlaces low) where
  part_near : (j : ℕ) → j < most_axes → Near (along_of h low j) (along_of h low j) share
  part_near j l = record {
    same = refl;
    size = rw (size_mul (h.coefficient j) (pos (get_or low j 0))) (mul-le-mul (small.coefficient j l).most (lows.place j).most);
  }

  total_of_parts : Near (total most_axes (along_of h low)) (total most_axes (along_of h low)) (0 + share + share + share + share)
  unfolding total
  total_of_parts =
      near_add (near_add (near_add (near_add (near_lit (pos 0)) (part_near 0 (lit< tt))) (part_near 1 (lit< tt))) (part_near 2 (lit< tt)))
      (part_near 3 (lit< tt))

  pub low_few : nat_abs (low_value h low) ≤ low_limit
  low_few = omega (arith, size_add h.offset (total most_axes (along_of h low)), small.offset, total_of_parts.size)

-- twice it and the coefficients: twice the value half a place further along each axis
twice_low : (h : Halfspace) (low : List ℕ) → low_value h low +ℤ low_value h low +ℤ total most_axes h.coefficient ≡ first_value h low
unfolding first_value total
twice_low h low =
    from h.offset (h.coefficient 0) (h.coefficient 1) (h.coefficient 2) (h.coefficient 3)
    (get_or low 0 0) (get_or low 1 0) (get_or low 2 0) (get_or low 3 0)
  where
    from : (o a b c d : ℤ) (p q r s : ℕ) →
        o +ℤ (pos 0 +ℤ a *ℤ pos p +ℤ b *ℤ pos q +ℤ c *ℤ pos r +ℤ d *ℤ pos s) +ℤ (o +ℤ (pos 0 +ℤ a *ℤ pos p +ℤ b *ℤ pos q +ℤ c *ℤ pos r +ℤ d *ℤ pos s))
        +ℤ (pos 0 +ℤ a +ℤ b +ℤ c +ℤ d)
        ≡ pos 2 *ℤ o
        +ℤ (pos 0 +ℤ a *ℤ pos (2 * p + 1) +ℤ b *ℤ pos (2 * q + 1) +ℤ c *ℤ pos (2 * r + 1) +ℤ d *ℤ pos (2 * s + 1))
    from o a b c d p q r s =
        let parts = ν 0 ⊕ ι a ⊗ ν p ⊕ ι b ⊗ ν q ⊕ ι c ⊗ ν r ⊕ ι d ⊗ ν s in
        eq_by (ι o ⊕ parts ⊕ (ι o ⊕ parts) ⊕ (ν 0 ⊕ ι a ⊕ ι b ⊕ ι c ⊕ ι d))
        (ν 2 ⊗ ι o ⊕ (ν 0 ⊕ ι a ⊗ ν (2 * p + 1) ⊕ ι b ⊗ ν (2 * q + 1) ⊕ ι c ⊗ ν (2 * r + 1) ⊕ ι d ⊗ ν (2 * s + 1)))
        (omega arith)

module _ {rows : List ℤ} {i : ℕ} (row : RowNamed rows i) where
  abbrev h : Halfspace
  h = row_at rows i

  -- the coefficient of an axis, as it is read
  read : (axis : ℕ) → get_or rows (5 * i + 1 + axis) (pos 0) ≡ h.coefficient axis
  read axis = let e : 5 * i + 1 + axis ≡ 5 * i + suc axis = omega arith in ap (λ (k : ℕ). get_or rows k (pos 0)) e

  pub coefficient_near : (axis : ℕ) → axis < most_axes → Near (held (get_or rows (5 * i + 1 + axis) (pos 0))) (h.coefficient axis) coefficient_limit
  coefficient_near axis l = rw (read axis) (near (record { most = (row.small.coefficient axis l).most }) tt)

  -- ---- steps
  module _ {table lengths : List ℕ} (tables : SmallTables table lengths) (j : ℕ) (l : j < word_levels) where
    abbrev axis : ℕ
    axis = get_or table j 0

    pub step_small : nat_abs (step_of h table lengths j) ≤ step_limit
    step_small =
        (near_mul {x = pos 2 *ℤ h.coefficient axis} {y = pos (get_or lengths j 0)}
        (near_mul {x = pos 2} {y = h.coefficient axis} (near_lit (pos 2)) (coefficient_near axis (tables.axis j l)))
        (near_nat (get_or lengths j 0) longest_side (tables.short j).most)).size

    module _ {times : ℕ} (told : times ≡ doublings_of (get_or lengths j 0)) where
      length_is : 2 ^ times ≡ get_or lengths j 0
      length_is = ap (λ (k : ℕ). 2 ^ k) told ∙ sym (tables.power j l)

      pub small_read : SmallCoefficient (held (get_or rows (5 * i + 1 + axis) (pos 0)))
      small_read = record { most = (near_size (coefficient_near axis (tables.axis j l))).most }

      pub few_times : times < 64
      few_times = omega (arith, told)

      pub short_length : SmallPlace (2 ^ times)
      short_length = rw length_is (tables.short j)

      module _ {once : ℤ} (e : once ≡ held (get_or rows (5 * i + 1 + axis) (pos 0)) *ℤ pos (2 ^ times)) where
        abbrev product : ℤ
        product = h.coefficient axis *ℤ pos (get_or lengths j 0)

        once_near : Near (held once) product share
        once_near =
            near_call {x = product} (e ∙ ap (λ (k : ℕ). held (get_or rows (5 * i + 1 + axis) (pos 0)) *ℤ pos k) length_is)
            (near_mul {x = h.coefficient axis} {y = pos (get_or lengths j 0)} (coefficient_near axis (tables.axis j l))
            (near_nat (get_or lengths j 0) longest_side (tables.short j).most)) tt

        twice_near : Near (held once +ℤ held once) (step_of h table lengths j) (2 * share)
        twice_near =
            near_as {x = product +ℤ product} (near_add {x = product} {y = product} once_near once_near)
            (from (h.coefficient axis) (get_or lengths j 0)) (omega arith)
          where
            from : (a : ℤ) (k : ℕ) → a *ℤ pos k +ℤ a *ℤ pos k ≡ pos 2 *ℤ a *ℤ pos k
            from a k = eq_by (ι a ⊗ ν k ⊕ ι a ⊗ ν k) (ν 2 ⊗ ι a ⊗ ν k) (omega arith)

        pub step_fits : SFits w64 (held once +ℤ held once)
        step_fits = near_fits {x = step_of h table lengths j} twice_near tt

        pub step_is : held (held once +ℤ held once) ≡ step_of h table lengths j
        step_is = (near_back {x = step_of h table lengths j} twice_near tt).same

    -- a call's result
    step_held : {s : ℤ} → s ≡ step_of h table lengths j → Near (held s) (step_of h table lengths j) step_limit
    step_held e = near_call {x = step_of h table lengths j} e (record { same = refl; size = step_small }) tt

  module _ {table lengths : List ℕ} (tables : SmallTables table lengths) {s₀ s₁ s₂ s₃ s₄ s₅ : ℤ}
      (e₀ : s₀ ≡ step_of h table lengths 0) (e₁ : s₁ ≡ step_of h table lengths 1) (e₂ : s₂ ≡ step_of h table lengths 2)
      (e₃ : s₃ ≡ step_of h table lengths 3) (e₄ : s₄ ≡ step_of h table lengths 4) (e₅ : s₅ ≡ step_of h table lengths 5) where
    abbrev six : List ℤ
    six = held s₀ ∷ held s₁ ∷ held s₂ ∷ held s₃ ∷ held s₄ ∷ held s₅ ∷ []

    each : (j : ℕ) → j < word_levels → step_at six j ≡ step_of h table lengths j
    each zero l = (step_held tables 0 l e₀).same
    each (suc zero) l = (step_held tables 1 l e₁).same
    each (suc (suc zero)) l = (step_held tables 2 l e₂).same
    each (suc (suc (suc zero))) l = (step_held tables 3 l e₃).same
    each (suc (suc (suc (suc zero)))) l = (step_held tables 4 l e₄).same
    each (suc (suc (suc (suc (suc zero))))) l = (step_held tables 5 l e₅).same
    each (suc (suc (suc (suc (suc (suc j)))))) l = absurd (omega arith)

    pub steps_are : StepsOf h table lengths six
    steps_are = record { step = each; beyond = λ j l. get_or-eq_default six (pos 0) l }

  -- ---- the value
  coefficients_small : FourSmall h.coefficient
  coefficients_small = record { few = λ j l. omega (arith, (row.small.coefficient j l).most) }

  abbrev c₀ : ℤ
  c₀ = get_or rows (5 * i + 1) (pos 0)

  abbrev c₁ : ℤ
  c₁ = get_or rows (5 * i + 2) (pos 0)

  abbrev c₂ : ℤ
  c₂ = get_or rows (5 * i + 3) (pos 0)

  abbrev c₃ : ℤ
  c₃ = get_or rows (5 * i + 4) (pos 0)

  pub first_two_fit : SFits w64 (held c₀ +ℤ held c₁)
  first_two_fit = two_fits coefficients_small {a = c₀} {b = c₁} {c = c₂} {d = c₃} refl refl refl refl

  pub first_three_fit : SFits w64 (held (held c₀ +ℤ held c₁) +ℤ held c₂)
  first_three_fit = three_fits coefficients_small {a = c₀} {b = c₁} {c = c₂} {d = c₃} refl refl refl refl

  pub all_four_fit : SFits w64 (held (held (held c₀ +ℤ held c₁) +ℤ held c₂) +ℤ held c₃)
  all_four_fit = four_fits coefficients_small {a = c₀} {b = c₁} {c = c₂} {d = c₃} refl refl refl refl

  module _ {values : List ℤ} (placed : RowPlaced rows values i) where
    abbrev v : ℤ
    v = get_or values i (pos 0)

    abbrev at_low : ℤ
    at_low = low_value h placed.low

    low_near : Near (held v) at_low low_limit
    low_near = near_call {x = at_low} placed.value.value_is (record { same = refl; size = low_few row.small placed.small }) tt

    low_twice : Near (held v +ℤ held v) (at_low +ℤ at_low) (2 * low_limit)
    low_twice = near_add {x = at_low} {y = at_low} low_near low_near

    pub low_fits : SFits w64 (held v +ℤ held v)
    low_fits = near_fits {x = at_low +ℤ at_low} low_twice tt

    value_near : Near (held (held v +ℤ held v) +ℤ held (held (held (held c₀ +ℤ held c₁) +ℤ held c₂) +ℤ held c₃))
        (at_low +ℤ at_low +ℤ total most_axes h.coefficient) (2 * low_limit + 4 * term_limit)
    value_near =
        near_add {x = at_low +ℤ at_low} {y = total most_axes h.coefficient} (near_back {x = at_low +ℤ at_low} low_twice tt)
        (near_back {x = total most_axes h.coefficient}
        (four_near coefficients_small {a = c₀} {b = c₁} {c = c₂} {d = c₃} refl refl refl refl) tt)

    pub value_fits : SFits w64 (held (held v +ℤ held v) +ℤ held (held (held (held c₀ +ℤ held c₁) +ℤ held c₂) +ℤ held c₃))
    value_fits = near_fits {x = at_low +ℤ at_low +ℤ total most_axes h.coefficient} value_near tt

    pub value_is : held (held (held v +ℤ held v) +ℤ held (held (held (held c₀ +ℤ held c₁) +ℤ held c₂) +ℤ held c₃)) ≡ first_value h placed.low
    value_is = (near_back {x = at_low +ℤ at_low +ℤ total most_axes h.coefficient} value_near tt).same ∙ twice_low h placed.low

-- ---- the axes that a universe lacks add nothing
total_less : (n k : ℕ) (f : ℕ → ℤ) → ((i : ℕ) → n ≤ i → i < n + k → f i ≡ pos 0) → total (n + k) f ≡ total n f
unfolding total
total_less n zero f z = let e : n + 0 ≡ n = omega arith in ap (λ (m : ℕ). total m f) e
total_less n (suc k) f z =
    let e : n + suc k ≡ suc (n + k) = omega arith in
    ap (λ (m : ℕ). total m f) e
    ∙ ap (λ (x : ℤ). total (n + k) f +ℤ x) (z (n + k) (omega arith) (omega arith))
    ∙ +ℤ_idr (total (n + k) f)
    ∙ total_less n k f (λ i l m. z i l (omega arith))

no_size : (z : ℤ) → nat_abs z ≤ 0 → z ≡ pos 0
no_size (pos n) l = ap pos (omega arith)
no_size (negsuc n) l = absurd (omega arith)

module _ (u : Universe) (few : u.axes ≤ most_axes) (h : Halfspace) (within : within_limits u h ≡ true) (low : List ℕ) where
  pub no_coefficient : (i : ℕ) → u.axes ≤ i → i < most_axes → h.coefficient i ≡ pos 0
  unfolding within_limits
  no_coefficient i l m =
      let test : ℕ → Bool = λ i. leb (nat_abs (h.coefficient i)) (cond (ltb i u.axes) coefficient_limit 0) in
      let all = every_all most_axes test (and_right (leb (nat_abs h.offset) offset_limit) (every most_axes test) within) i m in
      no_size (h.coefficient i) (leb-true _ _ (rw (le-ltb i u.axes l) at all))

  pub first_centre : first_value h low ≡ centre_value u h low
  unfolding first_value centre_value
  first_centre =
      let e : most_axes ≡ u.axes + (most_axes - u.axes) = omega arith in
      ap (λ (x : ℤ). pos 2 *ℤ h.offset +ℤ x)
      (ap (λ (n : ℕ). total n (term_of h low)) e ∙ total_less u.axes (most_axes - u.axes) (term_of h low) (λ i l m. none i l (omega arith)))
    where
      none : (i : ℕ) → u.axes ≤ i → i < most_axes → term_of h low i ≡ pos 0
      none i l m =
          ap (λ (x : ℤ). x *ℤ pos (2 * get_or low i 0 + 1)) (no_coefficient i l m) ∙ eq_by (ν 0 ⊗ ν (2 * get_or low i 0 + 1)) (ν 0) (omega arith)

-- ---- the value of the code at a place
pub value_here : {rows : List ℤ} {low codes : List ℕ} {from count : ℕ} {values : List ℤ} → RightValues rows low codes from count values →
    {i : ℕ} → from ≤ i → i < from + count → ValueOf rows low values (get_or codes i 0)
value_here {rows} {low} {codes} {from} {count} {values} right {i} l m =
    let e : from + (i - from) ≡ i = omega arith in
    subst (λ (k : ℕ). ValueOf rows low values (get_or codes k 0)) e (right.at_code (i - from) (omega arith))
