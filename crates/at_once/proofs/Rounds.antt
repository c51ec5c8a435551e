-- Moves of values: a value with an amount more or less fits, a row that is of the round moves once, and after any number of codes exactly the rows that they
-- name have moved, since a row that has moved is of the other round.
use Prim.Native.Nat.{ℕ, zero, suc, ◌+◌, ◌-◌, ◌*◌, ◌^◌, ◌≤◌, ◌<◌}
use mathlib.Core.Path.{◌≡◌, refl, sym, ap, ◌∙◌, subst}
use mathlib.Core.Bool.{Bool, true, false, cond, false≢true, ◌&&◌}
use mathlib.Core.List.{List}
use native.Mathlib.Omega.{arith}
use native.Mathlib.Nat.{mul-le-mul, mod-lt}
use native.Mathlib.Decide.{ℕ_discrete}
use borrow.Author.Tests.{eqb-true, eq-eqb, ne_eqb}
use lib.Dec.{eqb}
use lib.IntN.{ℤ, pos, nat_abs, ◌+ℤ◌, ◌-ℤ◌, ◌*ℤ◌}
use lib.ListN.{length, get_or, set, length-set}
use lib.Seq.{get_or-set_same, get_or-set_other}
use Rattle.lemmas.proofs.Sums.{and_left, and_right}
use Rattle.lemmas.proofs.Machine.{Near, near, near_add, near_sub, size_mul}
use Rattle.universe.specs.Universe.{longest_side, offset_limit, coefficient_limit}
use Rattle.csg.specs.Halfspace.{most_rows, row_at}
use Rattle.convert.specs.Small.{SmallCoefficient, SmallPlace}
use Rattle.pruned.proofs.Moving.{held}
use Rattle.at_once.specs.Words.{doublings_of}
use Rattle.at_once.specs.Values.{is_row_side}
use Rattle.at_once.specs.Moves.{row_of, names_row, stepped, low_limit, step_along, SmallStep, RowJob, RowMoved, MoveJob, Moved, BeginJob, Begun}
use Rattle.at_once.proofs.RowValues.{coefficient_near}

-- ---- a value and an amount
module _ {value step : ℤ} (s : SmallStep value step) where
  value_near : Near (held value) value low_limit
  value_near = near (record { most = s.value_few }) tt

  step_near : Near (held step) step (coefficient_limit * longest_side)
  step_near = near (record { most = s.step_few }) tt

  more_near : Near (held value +ℤ held step) (value +ℤ step) (low_limit + coefficient_limit * longest_side)
  more_near = near_add {x = value} {y = step} value_near step_near

  less_near : Near (held value -ℤ held step) (value -ℤ step) (low_limit + coefficient_limit * longest_side)
  less_near = near_sub {x = value} {y = step} value_near step_near

  stepped_few : (up : Bool) → nat_abs (stepped up value step) ≤ low_limit + coefficient_limit * longest_side
  stepped_few true = more_near.size
  stepped_few false = less_near.size

-- ---- a row
module _ {rows : List ℤ} {row axis times : ℕ} {values : List ℤ} {rounds : List ℕ} {round : ℕ} (j : RowJob rows row axis times values rounds round) where
  abbrev read : ℤ
  read = held (get_or rows (5 * row + 1 + axis) (pos 0))

  read_is : read ≡ (row_at rows row).coefficient axis
  read_is = (coefficient_near j.named axis j.axis_few).same

  pub amount_asks : SmallCoefficient read
  amount_asks = subst SmallCoefficient (sym read_is) (j.named.small.coefficient axis j.axis_few)

  module _ {step : ℤ} (e : step ≡ read *ℤ pos (2 ^ times)) where
    step_is : step ≡ step_along rows row axis (2 ^ times)
    step_is = e ∙ ap (λ (z : ℤ). z *ℤ pos (2 ^ times)) read_is

    step_few : nat_abs step ≤ coefficient_limit * longest_side
    step_few = rw (step_is, size_mul ((row_at rows row).coefficient axis) (pos (2 ^ times)))
        (mul-le-mul (j.named.small.coefficient axis j.axis_few).most j.short.most)

    held_is : held step ≡ step
    held_is = (near (record { most = step_few }) tt).same

    module _ (t : get_or rounds row 0 ≡ round) where
      value_same : held (get_or values row (pos 0)) ≡ get_or values row (pos 0)
      value_same = (near (record { most = j.small t }) tt).same

      pub step_asks : SmallStep (held (get_or values row (pos 0))) (held step)
      step_asks = rw (value_same, held_is) (record { value_few = j.small t; step_few = step_few })

      pub row_moved : {up : Bool} {r : ℤ} → r ≡ stepped up (held (get_or values row (pos 0))) (held step) →
          RowMoved up rows row axis times round values rounds (set values row (held r)) (set rounds row (1 - round))
      row_moved {up} {r} g =
          let k : r ≡ stepped up (get_or values row (pos 0)) (step_along rows row axis (2 ^ times)) =
          g ∙ ap (λ (z : ℤ). stepped up z (held step)) value_same ∙ ap (stepped up (get_or values row (pos 0))) (held_is ∙ step_is) in
          let few : nat_abs r ≤ low_limit + coefficient_limit * longest_side = rw g (stepped_few step_asks up) in
          record { values_are = rw (eq-eqb _ _ t) (ap (set values row) ((near (record { most = few }) tt).same ∙ k)); rounds_are = rw (eq-eqb _ _ t) refl }

  pub row_stays : {up : Bool} → (get_or rounds row 0 ≡ round → ⊥) → RowMoved up rows row axis times round values rounds values rounds
  row_stays n = record { values_are = rw (ne_eqb _ _ n) refl; rounds_are = rw (ne_eqb _ _ n) refl }

-- ---- the rows that codes name
module _ (codes : List ℕ) (from n : ℕ) where
  abbrev here : ℕ
  here = get_or codes (from + n) 0

  pub names_no_more : is_row_side here ≡ false → (row : ℕ) → names_row codes from (suc n) row ≡ names_row codes from n row
  unfolding names_row
  names_no_more e row = rw e refl

  pub names_it : is_row_side here ≡ true → names_row codes from (suc n) (row_of here) ≡ true
  unfolding names_row
  names_it e = rw (e, eq-eqb (row_of here) (row_of here) refl) refl

  pub names_other : (row : ℕ) → (row_of here ≡ row → ⊥) → names_row codes from (suc n) row ≡ names_row codes from n row
  unfolding names_row
  names_other row d = by (is_row_side here) refl
    where
      by : (t : Bool) → is_row_side here ≡ t →
          cond (is_row_side here && eqb (row_of here) row) true (names_row codes from n row) ≡ names_row codes from n row
      by true e = rw (e, ne_eqb (row_of here) row d) refl
      by false e = rw e refl

  pub names_still : (row : ℕ) → names_row codes from n row ≡ true → names_row codes from (suc n) row ≡ true
  unfolding names_row
  names_still row h = by (is_row_side here && eqb (row_of here) row) refl
    where
      by : (t : Bool) → is_row_side here && eqb (row_of here) row ≡ t → cond (is_row_side here && eqb (row_of here) row) true (names_row codes from n row) ≡ true
      by true e = rw e refl
      by false e = rw e h

-- a code names its row
pub names_all : (codes : List ℕ) (from n k : ℕ) → k < n → is_row_side (get_or codes (from + k) 0) ≡ true →
    names_row codes from n (row_of (get_or codes (from + k) 0)) ≡ true
names_all codes from zero k l e = absurd (omega arith)
names_all codes from (suc n) k l e = by (ℕ_discrete k n) (λ (m : k < n). names_all codes from n k m e)
  where
    by : Dec (k ≡ n) → (k < n → names_row codes from n (row_of (get_or codes (from + k) 0)) ≡ true) →
        names_row codes from (suc n) (row_of (get_or codes (from + k) 0)) ≡ true
    by (yes q) rec = rw q (names_it codes from n (rw q at e))
    by (no d) rec = names_still codes from n (row_of (get_or codes (from + k) 0)) (rec (omega (arith, d)))

-- and only such rows are named
pub names_some : (codes : List ℕ) (from n row : ℕ) → names_row codes from n row ≡ true →
    (k : ℕ) × (k < n) × (is_row_side (get_or codes (from + k) 0) ≡ true) × (row_of (get_or codes (from + k) 0) ≡ row)
unfolding names_row
names_some codes from zero row h = absurd (false≢true h)
names_some codes from (suc n) row h =
    by (is_row_side (get_or codes (from + n) 0) && eqb (row_of (get_or codes (from + n) 0)) row) refl (names_some codes from n row)
  where
    by : (t : Bool) → is_row_side (get_or codes (from + n) 0) && eqb (row_of (get_or codes (from + n) 0)) row ≡ t →
        (names_row codes from n row ≡ true →
        (k : ℕ) × (k < n) × (is_row_side (get_or codes (from + k) 0) ≡ true) × (row_of (get_or codes (from + k) 0) ≡ row)) →
        (k : ℕ) × (k < suc n) × (is_row_side (get_or codes (from + k) 0) ≡ true) × (row_of (get_or codes (from + k) 0) ≡ row)
    by true e rec = (
      n,
      omega arith,
      and_left (is_row_side (get_or codes (from + n) 0)) (eqb (row_of (get_or codes (from + n) 0)) row) e,
      eqb-true _ _ (and_right (is_row_side (get_or codes (from + n) 0)) (eqb (row_of (get_or codes (from + n) 0)) row) e),
    )
    by false e rec =
        let w = rec (sym (ap (λ (b : Bool). cond b true (names_row codes from n row)) e) ∙ h) in
        (w.0, omega (arith, w.1), w.2, w.3)

-- codes that stay name the same rows
pub names_same : (codes codes' : List ℕ) (from n row : ℕ) → ((k : ℕ) → k < n → get_or codes' (from + k) 0 ≡ get_or codes (from + k) 0) →
    names_row codes' from n row ≡ names_row codes from n row
unfolding names_row
names_same codes codes' from zero row h = refl
names_same codes codes' from (suc n) row h =
    ap (λ (c : ℕ). cond (is_row_side c && eqb (row_of c) row) true (names_row codes' from n row)) (h n (omega arith))
    ∙ ap (cond (is_row_side (get_or codes (from + n) 0) && eqb (row_of (get_or codes (from + n) 0)) row) true)
    (names_same codes codes' from n row (λ k l. h k (omega arith)))

-- ---- moves, code by code
module _ (up : Bool) {rows : List ℤ} {axis half : ℕ} {codes : List ℕ} {from count : ℕ} {values₀ : List ℤ} {rounds₀ : List ℕ} {round : ℕ}
    (job : MoveJob rows axis half codes from count values₀ rounds₀ round) where
  abbrev MovedTo : ℕ → List ℤ → List ℕ → Type 0
  MovedTo n values rounds = Moved up rows axis half codes from n round values₀ rounds₀ values rounds

  pub none_moved : MovedTo 0 values₀ rounds₀
  unfolding names_row
  none_moved = record { values_long = job.values_long; rounds_long = job.rounds_long; value_is = λ row l. refl; round_is = λ row l. refl }

  module _ {n : ℕ} {values : List ℤ} {rounds : List ℕ} (m : MovedTo n values rounds) (l : n < count) where
    abbrev code : ℕ
    code = get_or codes (from + n) 0

    pub still_moved : is_row_side code ≡ false → MovedTo (suc n) values rounds
    still_moved e =
        record {
          values_long = m.values_long;
          rounds_long = m.rounds_long;
          value_is = λ row k. m.value_is row k
              ∙ ap (λ (b : Bool). cond b (stepped up (get_or values₀ row (pos 0)) (step_along rows row axis half)) (get_or values₀ row (pos 0)))
              (sym (names_no_more codes from n e row));
          round_is = λ row k. m.round_is row k ∙ ap (λ (b : Bool). cond b (1 - round) (get_or rounds₀ row 0)) (sym (names_no_more codes from n e row));
        }

    module _ (e : is_row_side code ≡ true) where
      abbrev its : ℕ
      its = row_of code

      its_few : its < most_rows
      its_few = omega (arith, (job.named n l e).here, job.few_rows)

      -- it is of the round exactly where no code so far names it
      not_named : get_or rounds its 0 ≡ round → names_row codes from n its ≡ false
      not_named t = by (names_row codes from n its) refl
        where
          by : (b : Bool) → names_row codes from n its ≡ b → names_row codes from n its ≡ false
          by false f = f
          by true f = absurd (omega (arith, t, job.is_round, m.round_is its its_few ∙ ap (λ (b : Bool). cond b (1 - round) (get_or rounds₀ its 0)) f))

      is_named : (get_or rounds its 0 ≡ round → ⊥) → names_row codes from n its ≡ true
      is_named d = by (names_row codes from n its) refl
        where
          by : (b : Bool) → names_row codes from n its ≡ b → names_row codes from n its ≡ true
          by true f = f
          by false f = absurd (d (m.round_is its its_few ∙ ap (λ (b : Bool). cond b (1 - round) (get_or rounds₀ its 0)) f ∙ job.at_round n l e))

      value_before : get_or rounds its 0 ≡ round → get_or values its (pos 0) ≡ get_or values₀ its (pos 0)
      value_before t =
          m.value_is its its_few
          ∙ ap (λ (b : Bool). cond b (stepped up (get_or values₀ its (pos 0)) (step_along rows its axis half)) (get_or values₀ its (pos 0))) (not_named t)

      times_few : doublings_of half < 64
      times_few = mod-lt _ (omega arith)

      pub row_job : {times : ℕ} → times ≡ doublings_of half → RowJob rows its axis times values rounds round
      row_job q =
          record {
            named = job.named n l e;
            few_rows = job.few_rows;
            axis_few = job.axis_few;
            times_few = rw q times_few;
            short = rw q (subst SmallPlace job.power.power job.power.short);
            values_long = m.values_long;
            rounds_long = m.rounds_long;
            is_round = job.is_round;
            small = λ t. rw (value_before t) (job.small n l e);
          }

      module _ {times : ℕ} (q : times ≡ doublings_of half) {values' : List ℤ} {rounds' : List ℕ}
          (r : RowMoved up rows its axis times round values rounds values' rounds') where
        -- it moves
        module _ (t : get_or rounds its 0 ≡ round) where
          abbrev new : ℤ
          new = stepped up (get_or values its (pos 0)) (step_along rows its axis (2 ^ times))

          values_set : values' ≡ set values its new
          values_set = r.values_are ∙ ap (λ (b : Bool). cond b (set values its new) values) (eq-eqb (get_or rounds its 0) round t)

          rounds_set : rounds' ≡ set rounds its (1 - round)
          rounds_set = r.rounds_are ∙ ap (λ (b : Bool). cond b (set rounds its (1 - round)) rounds) (eq-eqb (get_or rounds its 0) round t)

          new_is : new ≡ stepped up (get_or values₀ its (pos 0)) (step_along rows its axis half)
          new_is =
              ap (λ (z : ℤ). stepped up z (step_along rows its axis (2 ^ times))) (value_before t)
              ∙ ap (λ (k : ℕ). stepped up (get_or values₀ its (pos 0)) (step_along rows its axis k)) (ap (λ (k : ℕ). 2 ^ k) q ∙ sym job.power.power)

          it_moved : MovedTo (suc n) values' rounds'
          it_moved =
              record {
                values_long = ap length values_set ∙ length-set values its new ∙ m.values_long;
                rounds_long = ap length rounds_set ∙ length-set rounds its (1 - round) ∙ m.rounds_long;
                value_is = λ row k. value row k (ℕ_discrete its row);
                round_is = λ row k. other row k (ℕ_discrete its row);
              }
            where
              value : (row : ℕ) → row < most_rows → Dec (its ≡ row) → get_or values' row (pos 0)
                  ≡ cond (names_row codes from (suc n) row) (stepped up (get_or values₀ row (pos 0)) (step_along rows row axis half)) (get_or values₀ row (pos 0))
              value row k (yes w) =
                  subst (λ (x : ℕ). get_or values' x (pos 0)
                  ≡ cond (names_row codes from (suc n) x) (stepped up (get_or values₀ x (pos 0)) (step_along rows x axis half)) (get_or values₀ x (pos 0))) w
                  (ap (λ (v : List ℤ). get_or v its (pos 0)) values_set
                  ∙ get_or-set_same values its new (pos 0) (omega (arith, its_few, m.values_long))
                  ∙ new_is
                  ∙ ap (λ (b : Bool). cond b (stepped up (get_or values₀ its (pos 0)) (step_along rows its axis half)) (get_or values₀ its (pos 0)))
                  (sym (names_it codes from n e)))
              value row k (no d) =
                  ap (λ (v : List ℤ). get_or v row (pos 0)) values_set
                  ∙ get_or-set_other values its row new (pos 0) (λ w. d (sym w))
                  ∙ m.value_is row k
                  ∙ ap (λ (b : Bool). cond b (stepped up (get_or values₀ row (pos 0)) (step_along rows row axis half)) (get_or values₀ row (pos 0)))
                  (sym (names_other codes from n row d))

              other : (row : ℕ) → row < most_rows → Dec (its ≡ row) →
                  get_or rounds' row 0 ≡ cond (names_row codes from (suc n) row) (1 - round) (get_or rounds₀ row 0)
              other row k (yes w) =
                  subst (λ (x : ℕ). get_or rounds' x 0 ≡ cond (names_row codes from (suc n) x) (1 - round) (get_or rounds₀ x 0)) w
                  (ap (λ (v : List ℕ). get_or v its 0) rounds_set
                  ∙ get_or-set_same rounds its (1 - round) 0 (omega (arith, its_few, m.rounds_long))
                  ∙ ap (λ (b : Bool). cond b (1 - round) (get_or rounds₀ its 0)) (sym (names_it codes from n e)))
              other row k (no d) =
                  ap (λ (v : List ℕ). get_or v row 0) rounds_set
                  ∙ get_or-set_other rounds its row (1 - round) 0 (λ w. d (sym w))
                  ∙ m.round_is row k
                  ∙ ap (λ (b : Bool). cond b (1 - round) (get_or rounds₀ row 0)) (sym (names_other codes from n row d))

        -- it has moved before
        module _ (d : get_or rounds its 0 ≡ round → ⊥) where
          values_same : values' ≡ values
          values_same =
              r.values_are ∙ ap (λ (b : Bool). cond b (set values its (stepped up (get_or values its (pos 0)) (step_along rows its axis (2 ^ times)))) values)
              (ne_eqb (get_or rounds its 0) round d)

          rounds_same : rounds' ≡ rounds
          rounds_same = r.rounds_are ∙ ap (λ (b : Bool). cond b (set rounds its (1 - round)) rounds) (ne_eqb (get_or rounds its 0) round d)

          names_as : (row : ℕ) → names_row codes from n row ≡ names_row codes from (suc n) row
          names_as row = by (ℕ_discrete its row)
            where
              by : Dec (its ≡ row) → names_row codes from n row ≡ names_row codes from (suc n) row
              by (yes w) = subst (λ (x : ℕ). names_row codes from n x ≡ names_row codes from (suc n) x) w (is_named d ∙ sym (names_it codes from n e))
              by (no k) = sym (names_other codes from n row k)

          it_stayed : MovedTo (suc n) values' rounds'
          it_stayed =
              record {
                values_long = ap length values_same ∙ m.values_long;
                rounds_long = ap length rounds_same ∙ m.rounds_long;
                value_is = λ row k. ap (λ (v : List ℤ). get_or v row (pos 0)) values_same
                    ∙ m.value_is row k
                    ∙ ap (λ (b : Bool). cond b (stepped up (get_or values₀ row (pos 0)) (step_along rows row axis half)) (get_or values₀ row (pos 0)))
                    (names_as row);
                round_is = λ row k. ap (λ (v : List ℕ). get_or v row 0) rounds_same
                    ∙ m.round_is row k
                    ∙ ap (λ (b : Bool). cond b (1 - round) (get_or rounds₀ row 0)) (names_as row);
              }

        pub one_more : MovedTo (suc n) values' rounds'
        one_more = by (ℕ_discrete (get_or rounds its 0) round)
          where
            by : Dec (get_or rounds its 0 ≡ round) → MovedTo (suc n) values' rounds'
            by (yes t) = it_moved t
            by (no d) = it_stayed d

  -- the same by the place at which a code is read
  module _ {i : ℕ} (lo : from ≤ i) (hi : i < from + count) {values : List ℤ} {rounds : List ℕ} (m : MovedTo (i - from) values rounds) where
    place : from + (i - from) ≡ i
    place = omega arith

    within : i - from < count
    within = omega arith

    next : suc (i - from) ≡ i + 1 - from
    next = omega arith

    pub no_side_more : is_row_side (get_or codes i 0) ≡ false → MovedTo (i + 1 - from) values rounds
    no_side_more e = subst (λ (n : ℕ). MovedTo n values rounds) next (still_moved m within (rw place e))

    module _ (e : is_row_side (get_or codes i 0) ≡ true) {row times : ℕ} (p : row ≡ row_of (get_or codes i 0)) (q : times ≡ doublings_of half) where
      pub side_job : RowJob rows row axis times values rounds round
      side_job = subst (λ (r : ℕ). RowJob rows r axis times values rounds round) (ap (λ (k : ℕ). row_of (get_or codes k 0)) place ∙ sym p)
          (row_job m within (rw place e) q)

      pub side_more : {values' : List ℤ} {rounds' : List ℕ} → RowMoved up rows row axis times round values rounds values' rounds' →
          MovedTo (i + 1 - from) values' rounds'
      side_more {values'} {rounds'} r =
          subst (λ (n : ℕ). MovedTo n values' rounds') next
          (one_more m within (rw place e) q
          (subst (λ (k : ℕ). RowMoved up rows k axis times round values rounds values' rounds') (p ∙ sym (ap (λ (k : ℕ). row_of (get_or codes k 0)) place)) r))

-- ---- how values begin, code by code
module _ {rows : List ℤ} {codes : List ℕ} {count : ℕ} {values₀ : List ℤ} (job : BeginJob rows codes count values₀) where
  pub none_begun : Begun rows codes 0 values₀
  none_begun = record { long = job.values_long; value_is = λ k l e. absurd (omega arith) }

  module _ {n : ℕ} {values : List ℤ} (m : Begun rows codes n values) (l : n < count) where
    pub still_begun : is_row_side (get_or codes n 0) ≡ false → Begun rows codes (n + 1) values
    still_begun f = record { long = m.long; value_is = λ k h e. by k h e (ℕ_discrete k n) }
      where
        by : (k : ℕ) → k < n + 1 → is_row_side (get_or codes k 0) ≡ true → Dec (k ≡ n) →
            get_or values (row_of (get_or codes k 0)) (pos 0) ≡ (row_at rows (row_of (get_or codes k 0))).offset
        by k h e (yes q) = absurd (false≢true (sym f ∙ rw q at e))
        by k h e (no d) = m.value_is k (omega (arith, d)) e

    module _ (t : is_row_side (get_or codes n 0) ≡ true) {row : ℕ} (p : row ≡ row_of (get_or codes n 0)) where
      pub row_here : 5 * row < length rows
      row_here = omega (arith, (job.named n l t).here, p)

      pub row_below : row < most_rows
      row_below = omega (arith, (job.named n l t).here, job.few_rows, p)

      offset_same : held (get_or rows (5 * row) (pos 0)) ≡ (row_at rows row).offset
      offset_same = (near {x = (row_at rows row).offset} {b = offset_limit} (record { most = rw p (job.named n l t).small.offset }) tt).same

      pub more_begun : Begun rows codes (n + 1) (set values row (held (get_or rows (5 * row) (pos 0))))
      more_begun =
          record {
            long = length-set values row (held (get_or rows (5 * row) (pos 0))) ∙ m.long;
            value_is = λ k h e. by k h e (ℕ_discrete row (row_of (get_or codes k 0)));
          }
        where
          by : (k : ℕ) → k < n + 1 → is_row_side (get_or codes k 0) ≡ true → Dec (row ≡ row_of (get_or codes k 0)) →
              get_or (set values row (held (get_or rows (5 * row) (pos 0)))) (row_of (get_or codes k 0)) (pos 0) ≡ (row_at rows (row_of (get_or codes k 0))).offset
          by k h e (yes q) =
              subst (λ (r : ℕ). get_or (set values row (held (get_or rows (5 * row) (pos 0)))) r (pos 0) ≡ (row_at rows r).offset) q
              (get_or-set_same values row (held (get_or rows (5 * row) (pos 0))) (pos 0) (omega (arith, row_below, m.long)) ∙ offset_same)
          by k h e (no d) =
              get_or-set_other values row (row_of (get_or codes k 0)) (held (get_or rows (5 * row) (pos 0))) (pos 0) (λ q. d (sym q))
              ∙ m.value_is k (earlier (ℕ_discrete k n)) e
            where
              earlier : Dec (k ≡ n) → k < n
              earlier (yes q) = absurd (d (p ∙ ap (λ (x : ℕ). row_of (get_or codes x 0)) (sym q)))
              earlier (no f) = omega (arith, f)
