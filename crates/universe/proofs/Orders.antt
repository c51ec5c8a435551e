-- The order of d axes with any bits. A round holds an axis once or not at all, so n rounds hold axis i min n (bits i) times; where no axis has more than
-- n bits that is `bits i`. Only axes below d are in it, so its length is the sum of the bits. Rounds beyond the bits are empty: it does not matter how
-- many there are.
use mathlib.Core.Path.{◌≡◌, refl, sym, ap, ap₂, ◌∙◌}
use mathlib.Core.Bool.{Bool, true, false}
use mathlib.Core.List.{List, [], ◌∷◌, ◌++◌, append-nil, append_assoc}
use Prim.Native.Nat.{ℕ, zero, suc, ◌+◌, ◌≤◌, ◌<◌, min}
use native.Mathlib.Omega.{arith}
use native.Mathlib.Nat.{not-suc-le-zero, zero-min}
use native.Mathlib.Decide.{ℕ_discrete, dec_lt}
use lib.Dec.{ltb}
use lib.ListN.{length, take, length-take}
use borrow.Author.Tests.{eq-eqb, ne_eqb, lt-ltb, le-ltb}
use Rattle.lemmas.specs.Sums.{sum}
use Rattle.lemmas.specs.Grid.{count}
use Rattle.lemmas.specs.Lists.{occurrences, Below, none, more}
use Rattle.lemmas.proofs.Sums.{sum_cong, below, top}
use Rattle.lemmas.proofs.Lists.{occurrences_append, below_append, below_more, below_take, below_not, sum_occurrences}
use Rattle.universe.specs.Rounds.{only_if, round, rounds}

-- ---- an axis that has bits left comes behind those before it, and one that has none is passed over

pub round_behind : (bits : ℕ → ℕ) (r i : ℕ) → r < bits i → round bits r (suc i) ≡ round bits r i ++ (i ∷ [])
unfolding round
round_behind bits r i h = rw (lt-ltb r (bits i) h)

pub round_passed : (bits : ℕ → ℕ) (r i : ℕ) → bits i ≤ r → round bits r (suc i) ≡ round bits r i
unfolding round
round_passed bits r i h = rw (le-ltb r (bits i) h) (append-nil (round bits r i))

-- ---- only axes below d

only_if_below : (t : Bool) (i : ℕ) → Below (suc i) (only_if t i)
only_if_below true i = more {x = i} (omega arith) none
only_if_below false i = none

round_below : (bits : ℕ → ℕ) (r d : ℕ) → Below d (round bits r d)
unfolding round
round_below bits r zero = none
round_below bits r (suc i) = below_append (below_more (round_below bits r i)) (only_if_below (ltb r (bits i)) i)

pub rounds_below : (bits : ℕ → ℕ) (d n : ℕ) → Below d (rounds bits d n)
unfolding rounds
rounds_below bits d zero = none
rounds_below bits d (suc r) = below_append (rounds_below bits d r) (round_below bits r d)

-- ---- how often each

only_if_here : (t : Bool) (i : ℕ) → occurrences i (only_if t i) ≡ count t
unfolding occurrences
only_if_here true i = rw (eq-eqb i i refl)
only_if_here false i = refl

only_if_other : (t : Bool) (i j : ℕ) → (i ≡ j → ⊥) → occurrences j (only_if t i) ≡ 0
unfolding occurrences
only_if_other true i j n = rw (ne_eqb i j n)
only_if_other false i j n = refl

round_often : (bits : ℕ → ℕ) (r d i : ℕ) → i < d → occurrences i (round bits r d) ≡ count (ltb r (bits i))
unfolding round
round_often bits r zero i h = absurd (not-suc-le-zero h)
round_often bits r (suc d) i h =
    occurrences_append i (round bits r d) (only_if (ltb r (bits d)) d) ∙ go (ℕ_discrete d i) (round_often bits r d i)
  where
    go : Dec (d ≡ i) → (i < d → occurrences i (round bits r d) ≡ count (ltb r (bits i)))
        → occurrences i (round bits r d) + occurrences i (only_if (ltb r (bits d)) d) ≡ count (ltb r (bits i))
    go (yes e) ih = rw (← e) (omega (arith, below_not (round_below bits r d) d (omega arith), only_if_here (ltb r (bits d)) d))
    go (no n) ih = omega (arith, ih (omega arith), only_if_other (ltb r (bits d)) d i n)

rounds_often : (bits : ℕ → ℕ) (d n i : ℕ) → i < d → occurrences i (rounds bits d n) ≡ min n (bits i)
unfolding rounds occurrences
rounds_often bits d zero i h = sym (zero-min (bits i))
rounds_often bits d (suc r) i h =
    rw (occurrences_append, rounds_often bits d r i h, round_often bits r d i h) (go (dec_lt r (bits i)))
  where
    go : Dec (r < bits i) → min r (bits i) + count (ltb r (bits i)) ≡ min (suc r) (bits i)
    go (yes k) = rw (lt-ltb r (bits i) k) (omega arith)
    go (no n) = rw (le-ltb r (bits i) (omega arith)) (omega arith)

-- ---- where no axis has more bits than there are rounds

module _ (bits : ℕ → ℕ) (d n : ℕ) (few : (i : ℕ) → i < d → bits i ≤ n) where
  -- each axis as often as it has bits, so there are as many entries as bits
  pub order_often : (i : ℕ) → i < d → occurrences i (rounds bits d n) ≡ bits i
  order_often i h = rounds_often bits d n i h ∙ omega (arith, few i h)

  pub order_long : length (rounds bits d n) ≡ sum d bits
  order_long = sym (sum_occurrences (rounds_below bits d n)) ∙ sum_cong d _ _ order_often

  -- before level l the axes have been halved l times in all
  pub order_sum : (l : ℕ) → l ≤ sum d bits → sum d (λ i. occurrences i (take l (rounds bits d n))) ≡ l
  order_sum l h =
      sum_occurrences (below_take l (rounds_below bits d n)) ∙ omega (arith, length-take l (rounds bits d n), order_long)

-- ---- what the order does not depend on

-- the bits of other axes
round_cong : (f g : ℕ → ℕ) (r d : ℕ) → ((i : ℕ) → i < d → f i ≡ g i) → round f r d ≡ round g r d
unfolding round
round_cong f g r zero h = refl
round_cong f g r (suc d) h = ap₂ ◌++◌ (round_cong f g r d (below h)) (ap (λ b. only_if (ltb r b) d) (top h))

pub rounds_cong : (f g : ℕ → ℕ) (d n : ℕ) → ((i : ℕ) → i < d → f i ≡ g i) → rounds f d n ≡ rounds g d n
unfolding rounds
rounds_cong f g d zero h = refl
rounds_cong f g d (suc n) h = ap₂ ◌++◌ (rounds_cong f g d n h) (round_cong f g n d h)

-- rounds beyond the bits
round_empty : (bits : ℕ → ℕ) (r d : ℕ) → ((i : ℕ) → i < d → bits i ≤ r) → round bits r d ≡ []
unfolding round
round_empty bits r zero few = refl
round_empty bits r (suc d) few = rw (round_empty bits r d (below few), le-ltb r (bits d) (top few))

rounds_enough : (bits : ℕ → ℕ) (d m n : ℕ) → ((i : ℕ) → i < d → bits i ≤ m) → m ≤ n → rounds bits d n ≡ rounds bits d m
unfolding rounds
rounds_enough bits d m zero few h = ap (rounds bits d) (let e : 0 ≡ m = omega arith in e)
rounds_enough bits d m (suc n) few h = go (ℕ_discrete m (suc n)) (rounds_enough bits d m n few)
  where
    go : Dec (m ≡ suc n) → (m ≤ n → rounds bits d n ≡ rounds bits d m) → rounds bits d (suc n) ≡ rounds bits d m
    go (yes e) ih = ap (rounds bits d) (sym e)
    go (no e) ih = rw (round_empty bits n d (λ i k. omega (arith, few i k)), append-nil) (ih (omega arith))

-- so two numbers of rounds that suffice give one order
pub rounds_alike : (bits : ℕ → ℕ) (d m n : ℕ) → ((i : ℕ) → i < d → bits i ≤ m) → ((i : ℕ) → i < d → bits i ≤ n) → rounds bits d m ≡ rounds bits d n
rounds_alike bits d m n f g = go (dec_lt m n)
  where
    go : Dec (m < n) → rounds bits d m ≡ rounds bits d n
    go (yes h) = sym (rounds_enough bits d m n f (omega arith))
    go (no h) = rounds_enough bits d n m g (omega arith)

-- ---- what is laid before axis i of round r begins every longer order

abbrev pub laid_before : (ℕ → ℕ) → ℕ → ℕ → ℕ → List ℕ
laid_before bits d r i = rounds bits d r ++ round bits r i

pub record Begins (front whole : List ℕ) : Type 0 where
  pub rest : List ℕ
  pub joins : whole ≡ front ++ rest

begins_itself : (l : List ℕ) → Begins l l
begins_itself l = record { rest = []; joins = sym (append-nil l) }

begins_more : {front whole : List ℕ} (last : List ℕ) → Begins front whole → Begins front (whole ++ last)
begins_more {front} last b = record { rest = b.rest ++ last; joins = ap (λ (l : List ℕ). l ++ last) b.joins ∙ append_assoc front b.rest last }

begins_behind : {front whole : List ℕ} (l : List ℕ) → Begins front whole → Begins (l ++ front) (l ++ whole)
begins_behind {front} l b = record { rest = b.rest; joins = ap (λ (m : List ℕ). l ++ m) b.joins ∙ sym (append_assoc l front b.rest) }

round_begins : (bits : ℕ → ℕ) (r i d : ℕ) → i ≤ d → Begins (round bits r i) (round bits r d)
unfolding round
round_begins bits r i zero h = rw (let e : i ≡ 0 = omega arith in e) (begins_itself [])
round_begins bits r i (suc d) h = go (ℕ_discrete i (suc d)) (round_begins bits r i d)
  where
    go : Dec (i ≡ suc d) → (i ≤ d → Begins (round bits r i) (round bits r d)) → Begins (round bits r i) (round bits r (suc d))
    go (yes e) ih = rw e (begins_itself (round bits r (suc d)))
    go (no e) ih = begins_more (only_if (ltb r (bits d)) d) (ih (omega arith))

pub rounds_begin : (bits : ℕ → ℕ) (d r i n : ℕ) → i ≤ d → r < n → Begins (laid_before bits d r i) (rounds bits d n)
unfolding rounds
rounds_begin bits d r i zero h k = absurd (not-suc-le-zero k)
rounds_begin bits d r i (suc n) h k = go (ℕ_discrete r n) (rounds_begin bits d r i n h)
  where
    go : Dec (r ≡ n) → (r < n → Begins (laid_before bits d r i) (rounds bits d n)) → Begins (laid_before bits d r i) (rounds bits d (suc n))
    go (yes e) ih = rw e (begins_behind (rounds bits d n) (round_begins bits n i d h))
    go (no e) ih = begins_more (round bits n d) (ih (omega arith))
