-- What `add_each` leaves, place by place: before the run, in it and behind it.
use Rattle.std.proofs.Common.{rules, ◌≡◌, ℕ, ◌+◌, ◌-◌, ◌<◌, ◌≤◌, List, length, get_or, take, drop, ◌∙◌, arith}
use Rattle.std.proofs.lemmas.Slice.{overwrites}
use Rattle.std.proofs.lemmas.List.{places}
use borrow.Rule.Slice.PartMut.{put_mid}
use native.Mathlib.Decide.{dec_le, dec_lt}
use Rattle.bintree.specs.Counts.{inside}
use Rattle.bintree.proofs.Windows.{inside_at, outside_at}
use Rattle.report.specs.Filling.{AddsEach}
use Rattle.report.proofs.row.add_each.Goals as goal

module _ (before part : List ℕ) (from to each : ℕ) (h : from ≤ to) (k : to ≤ length before) (l : length part ≡ to - from) where
  abbrev after : List ℕ
  after = put_mid from (to - from) before part

  run_before : (c : ℕ) → c < from → get_or after c 0 ≡ get_or before c 0
  run_before c a = search (rules, places)

  run_at : (c : ℕ) → from ≤ c → c < to → get_or after c 0 ≡ get_or part (c - from) 0
  run_at c a b = search (rules, places)

  run_behind : (c : ℕ) → to ≤ c → get_or after c 0 ≡ get_or before c 0
  run_behind c a = search (rules, places)

  run_drop : (n : ℕ) → to ≤ n → drop n after ≡ drop n before
  run_drop n a = search (rules, overwrites)

  run_length : length after ≡ length before
  run_length = search (rules, overwrites)

  module _ (more : (i : ℕ) → i < to - from → get_or part i 0 ≡ get_or (take (to - from) (drop from before)) i 0 + each) where
    run_more : (c : ℕ) → Dec (from ≤ c) → Dec (c < to) → get_or after c 0 ≡ get_or before c 0 + inside from (to - from) (λ e. each) c
    run_more c (yes a) (yes b) =
        let here : get_or (take (to - from) (drop from before)) (c - from) 0 ≡ get_or before c 0 = search (rules, places) in
        omega (arith, run_at c a b, more (c - from) (omega arith), inside_at from (to - from) (λ e. each) c a (omega arith))
    run_more c (yes a) (no b) = omega (arith, run_behind c (omega arith), outside_at from (to - from) (λ e. each) c (λ x y. omega arith))
    run_more c (no a) b = omega (arith, run_before c (omega arith), outside_at from (to - from) (λ e. each) c (λ x y. omega arith))

    adds_each : AddsEach from to each before after
    adds_each = record {
      adds = λ n a. record { long = run_length; front = λ c b. run_more c (dec_le from c) (dec_lt c to); behind = run_drop n a };
    }

pub returns : goal.returns
returns c =
    let before = c.args.counts.now in
    let long : length (take (c.args.to - c.args.from) (drop c.args.from before)) ≡ c.args.to - c.args.from = search (rules, places) in
    adds_each before c.loop-count.count-items c.args.from c.args.to c.args.each c.requires.from_le_to c.requires.roomy.long
    (c.loop-count.invariant.long ∙ long) (λ i a. c.loop-count.invariant.done i (omega (arith, c.loop-count-test.false)))
