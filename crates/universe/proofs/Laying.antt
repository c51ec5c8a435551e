-- The table of axes by levels left, laid round after round. What is laid before an axis of a round begins the order, so that the next axis with bits left
-- is the order's next entry; while entries are left no axis has had all its rounds.
use mathlib.Core.Path.{◌≡◌, refl, sym, ap, ◌∙◌}
use mathlib.Core.List.{List, [], ◌∷◌, ◌++◌, append-nil, append_assoc}
use Prim.Native.Nat.{ℕ, suc, ◌+◌, ◌-◌, ◌≤◌, ◌<◌, max}
use native.Mathlib.Omega.{arith}
use native.Mathlib.Numerals.{add-one}
use native.Mathlib.Decide.{ℕ_discrete, dec_lt}
use borrow.Author.Tests.{lt-ltb, le-ltb}
use lib.ListN.{length, get_or, set, replicate, length-set, length-append}
use lib.Seq.{get_or-set_same, get_or-set_other, ext_get_or}
use Rattle.lemmas.proofs.Grid.{listed_length, listed_at, listed_same, listed_cong}
use Rattle.universe.specs.declared.Universe.{Universe}
use Rattle.universe.specs.Rounds.{round, rounds}
use Rattle.universe.specs.Universe.{most_levels, universe_refusal, bits_along, levels, order, axis_at}
use Rattle.universe.specs.Questions.{axes_left}
use Rattle.universe.proofs.Orders.{round_behind, round_passed, laid_before, Begins, rounds_begin, rounds_alike, order_long}
use Rattle.universe.proofs.Universes.{accepted, bits_most, bits_within, levels_few}
use Rattle.universe.proofs.Questions.{levels_refused, levels_told}
use Rattle.universe.proofs.Blocks.{zero_low}

-- how many axes are laid before axis i of round r
abbrev laid_count : Universe → ℕ → ℕ → ℕ
laid_count u r i = length (laid_before (bits_along u) u.axes r i)

-- the table before axis i of round r, with so many levels left to fill
pub record Laying (u : Universe) (axes : List ℕ) (left r i : ℕ) : Type 0 where
  pub good : universe_refusal u ≡ 0
  pub axis_in : i ≤ u.axes
  pub long : length axes ≡ most_levels
  pub laid : laid_count u r i + left ≡ levels u
  pub stands : (n : ℕ) → left ≤ n → n < levels u → get_or axes n 0 ≡ axis_at u (levels u - suc n)
  pub beyond : (n : ℕ) → levels u ≤ n → get_or axes n 0 ≡ 0

-- ---- what is laid, and the order

module _ (u : Universe) (r i : ℕ) where
  order_begins : i ≤ u.axes → Begins (laid_before (bits_along u) u.axes r i) (order u)
  unfolding order
  order_begins h =
      rw (rounds_alike (bits_along u) u.axes (levels u) (levels u + suc r) (bits_within u) (λ k l. omega (arith, bits_within u k l)))
      (rounds_begin (bits_along u) u.axes r i (levels u + suc r) h (omega arith))

  laid_here : r < bits_along u i → laid_before (bits_along u) u.axes r (i + 1) ≡ laid_before (bits_along u) u.axes r i ++ (i ∷ [])
  laid_here h =
      rw (add-one i, round_behind (bits_along u) r i h) (sym (append_assoc (rounds (bits_along u) u.axes r) (round (bits_along u) r i) (i ∷ [])))

  laid_passed : bits_along u i ≤ r → laid_count u r (i + 1) ≡ laid_count u r i
  laid_passed h = rw (add-one i, round_passed (bits_along u) r i h)

  laid_round : laid_count u (r + 1) 0 ≡ laid_count u r u.axes
  unfolding rounds round
  laid_round = rw (add-one r, append-nil)

-- the entry behind a front
entry_behind : (front rest : List ℕ) (x : ℕ) → get_or ((front ++ (x ∷ [])) ++ rest) (length front) 0 ≡ x
entry_behind [] rest x = refl
entry_behind (y ∷ front) rest x = entry_behind front rest x

-- ---- the table

pub laying_first : (u : Universe) {left : ℕ} → universe_refusal u ≡ 0 → left ≡ levels u → Laying u (replicate most_levels 0) left 0 0
unfolding rounds round
laying_first u z f = record {
  good = z;
  axis_in = omega arith;
  long = refl;
  laid = omega arith;
  stands = λ n h k. absurd (omega arith);
  beyond = λ n h. zero_low most_levels n;
}

module _ {u : Universe} {axes : List ℕ} {left r i : ℕ} (s : Laying u axes left r i) where
  pub laying_round : i ≡ u.axes → Laying u axes left (r + 1) 0
  laying_round e = record {
    good = s.good;
    axis_in = omega arith;
    long = s.long;
    laid = omega (arith, s.laid, laid_round u r, ap (laid_count u r) e);
    stands = s.stands;
    beyond = s.beyond;
  }

  module _ (n : i < u.axes) {bits : ℕ} (e : bits ≡ bits_along u i) where
    pub laying_passed : bits ≤ r → Laying u axes left r (i + 1)
    laying_passed h = record {
      good = s.good;
      axis_in = omega (arith, s.axis_in);
      long = s.long;
      laid = omega (arith, s.laid, laid_passed u r i (omega arith));
      stands = s.stands;
      beyond = s.beyond;
    }

    module _ (h : r < bits) where
      next : Begins (laid_before (bits_along u) u.axes r (i + 1)) (order u)
      next = order_begins u r (i + 1) (omega (arith, s.axis_in))

      front : List ℕ
      front = laid_before (bits_along u) u.axes r i

      one_more : order u ≡ (front ++ (i ∷ [])) ++ next.rest
      unfolding front
      one_more = next.joins ∙ ap (λ (l : List ℕ). l ++ next.rest) (laid_here u r i (omega arith))

      length_more : laid_count u r (i + 1) ≡ laid_count u r i + 1
      unfolding front
      length_more = ap length (laid_here u r i (omega arith)) ∙ length-append (laid_before (bits_along u) u.axes r i) (i ∷ [])

      all_laid : length (order u) ≡ levels u
      unfolding order levels
      all_laid = order_long (bits_along u) u.axes (levels u) (bits_within u)

      pub some_left : 1 ≤ left
      some_left =
          omega (arith, s.laid, length_more, all_laid, ap length next.joins, length-append (laid_before (bits_along u) u.axes r (i + 1)) next.rest)

      pub place_few : left - 1 < most_levels
      place_few = omega (arith, s.laid, some_left, levels_few u (accepted u s.good))

      here : axis_at u (levels u - left) ≡ i
      unfolding axis_at front
      here =
          let before : levels u - left ≡ length front = omega (arith, s.laid) in
          ap₂_get_d one_more before ∙ entry_behind front next.rest i
        where
          ap₂_get_d : {l m : List ℕ} {x y : ℕ} → l ≡ m → x ≡ y → get_or l x 0 ≡ get_or m y 0
          ap₂_get_d p q = λ j. get_or (p j) (q j) 0

      pub laying_here : Laying u (set axes (left - 1) i) (left - 1) r (i + 1)
      laying_here = record {
        good = s.good;
        axis_in = omega (arith, s.axis_in);
        long = length-set axes (left - 1) i ∙ s.long;
        laid = omega (arith, s.laid, length_more, some_left);
        stands = λ m k l. there m k l (ℕ_discrete m (left - 1));
        beyond = λ m k. get_or-set_other axes (left - 1) m i 0 (λ q. omega (arith, s.laid, some_left)) ∙ s.beyond m k;
      }
        where
          there : (m : ℕ) → left - 1 ≤ m → m < levels u → Dec (m ≡ left - 1) → get_or (set axes (left - 1) i) m 0 ≡ axis_at u (levels u - suc m)
          there m k l (yes q) =
              let back : levels u - left ≡ levels u - suc m = omega (arith, some_left) in
              ap (λ (x : ℕ). get_or (set axes (left - 1) i) x 0) q
              ∙ get_or-set_same axes (left - 1) i 0 (omega (arith, s.long, place_few))
              ∙ sym here
              ∙ ap (axis_at u) back
          there m k l (no q) = get_or-set_other axes (left - 1) m i 0 q ∙ s.stands m (omega (arith, some_left)) l

  -- all rounds lay all levels
  none_left : ((j : ℕ) → j < u.axes → bits_along u j ≤ r) → left ≡ 0
  unfolding levels
  none_left few = omega (arith, s.laid, order_long (bits_along u) u.axes r few, length-append (rounds (bits_along u) u.axes r) (round (bits_along u) r i))

  laid_all : left ≡ 0 → axes ≡ axes_left u
  unfolding axes_left
  laid_all h = ext_get_or 0 axes _ (s.long ∙ sym (listed_length most_levels _)) (λ n k. go n (omega (arith, s.long)) (dec_lt n (levels u)))
    where
      go : (n : ℕ) → n < most_levels → Dec (n < levels u) → get_or axes n 0 ≡ get_or (axes_left u) n 0
      go n k (yes l) =
          s.stands n (omega arith) l
          ∙ sym (listed_at most_levels _ n k ∙ rw (levels_told u refl s.good refl, lt-ltb n (levels u) l))
      go n k (no l) = s.beyond n (omega arith) ∙ sym (listed_at most_levels _ n k ∙ rw (levels_told u refl s.good refl, le-ltb n (levels u) (omega arith)))

  pub laying_all : max u.bits u.frame_bits ≤ r → axes ≡ axes_left u
  laying_all h = laid_all (none_left (λ j k. omega (arith, bits_most u j)))

-- a refused universe has none
pub laying_refused : (u : Universe) → (universe_refusal u ≡ 0 → ⊥) → replicate most_levels 0 ≡ axes_left u
unfolding axes_left
laying_refused u n =
    sym (listed_same most_levels 0)
    ∙ listed_cong most_levels _ _ (λ k h. rw (← levels_refused u refl n, le-ltb k 0 (omega arith)))

pub ruleset laying = (place_few, laying_refused)
