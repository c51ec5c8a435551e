-- What a call asks and what a block comes to are laws of proofs/Blocks.antt and proofs/Halvings.antt, with the premises of that place.
use Rattle.std.proofs.Common.{◌≡◌, ◌≤◌, true, false, is_some, length, take, sym, ap, ◌∙◌, arith}
use borrow.Author.Rules.{rules}
use lib.Seq.{length-take-le}
use Rattle.std.proofs.lemmas.List.{take_rest}
use Rattle.bintree.specs.Walks.{laid}
use Rattle.sweep.specs.Places.{past_all, piece_of}
use Rattle.sweep.proofs.Blocks as laws
use Rattle.sweep.proofs.Halvings as parts
use Rattle.sweep.proofs.block.+sweep_across_sweep_block_sweep_halves.Goals as goal

-- ---- `sweep_across`

pub sweep_across-split_at_mut-lows-requires : goal.sweep_across-split_at_mut-lows-requires
sweep_across-split_at_mut-lows-requires t c =
    omega (arith, parts.pair_fits c.requires)

pub sweep_across-slice_bounds-highs-end : goal.sweep_across-slice_bounds-highs-end
sweep_across-slice_bounds-highs-end t c =
    omega (arith, parts.pair_fits c.requires, c.split_at_mut-lows.ensures.back_len)

pub sweep_across-slice_bounds-highs-end-2 : goal.sweep_across-slice_bounds-highs-end-2
sweep_across-slice_bounds-highs-end-2 t c =
    let few : c.args.count ≤ length c.split_at_mut-lows.result.1.now = omega (arith, parts.pair_fits c.requires, c.split_at_mut-lows.ensures.back_len) in
    sym (length-take-le c.args.count c.split_at_mut-lows.result.1.now few)

pub sweep_across-copy_places-requires : goal.sweep_across-copy_places-requires
sweep_across-copy_places-requires t c =
    let few : c.args.count ≤ length c.split_at_mut-lows.result.1.now = omega (arith, parts.pair_fits c.requires, c.split_at_mut-lows.ensures.back_len) in
    length-take-le c.args.count c.split_at_mut-lows.result.1.now few ∙ sym c.split_at_mut-lows.ensures.front_len

pub sweep_across-sweep_block-requires : goal.sweep_across-sweep_block-requires
sweep_across-sweep_block-requires t c =
    let highs = c.push_past.ensures ∙ ap (past_all _) c.copy_places.ensures in (
      omega (arith, c.decreases),
      parts.paired_asks c.requires _
          (parts.paired_length c.requires _ c.split_at_mut-lows.ensures.front highs c.split_at_mut-lows.ensures.back_len)
          (parts.paired_places c.requires _ c.split_at_mut-lows.ensures.front highs c.split_at_mut-lows.ensures.back_len),
    )

pub sweep_across-returns-clause-result_value : goal.sweep_across-returns-clause-result_value
sweep_across-returns-clause-result_value t c =
    let highs = c.push_past.ensures ∙ ap (past_all _) c.copy_places.ensures in
    c.sweep_block.ensures.result_value ∙ ap (piece_of _)
    (parts.paired_is c.requires _ (parts.paired_length c.requires _ c.split_at_mut-lows.ensures.front highs c.split_at_mut-lows.ensures.back_len)
    (parts.paired_places c.requires _ c.split_at_mut-lows.ensures.front highs c.split_at_mut-lows.ensures.back_len))

pub sweep_across-returns-clause-out_after : goal.sweep_across-returns-clause-out_after
sweep_across-returns-clause-out_after t c =
    let highs = c.push_past.ensures ∙ ap (past_all _) c.copy_places.ensures in
    c.sweep_block.ensures.out_after ∙ ap (laid _ _)
    (parts.paired_is c.requires _ (parts.paired_length c.requires _ c.split_at_mut-lows.ensures.front highs c.split_at_mut-lows.ensures.back_len)
    (parts.paired_places c.requires _ c.split_at_mut-lows.ensures.front highs c.split_at_mut-lows.ensures.back_len))

pub sweep_across-returns-clause-fact : goal.sweep_across-returns-clause-fact
sweep_across-returns-clause-fact t c =
    let highs = c.push_past.ensures ∙ ap (past_all _) c.copy_places.ensures in
    parts.paired_ends c.requires _ (parts.paired_length c.requires _ c.split_at_mut-lows.ensures.front highs c.split_at_mut-lows.ensures.back_len)
    (parts.paired_places c.requires _ c.split_at_mut-lows.ensures.front highs c.split_at_mut-lows.ensures.back_len) _ c.sweep_block.ensures.fact

-- ---- `sweep_block`

pub sweep_block-split_at_mut-places-requires : goal.sweep_block-split_at_mut-places-requires
sweep_block-split_at_mut-places-requires t c =
    laws.block_fits c.requires

pub sweep_block-settle-held-requires : goal.sweep_block-settle-held-requires
sweep_block-settle-held-requires t c =
    laws.block_inside c.requires c.split_at_mut-places.ensures.front

pub sweep_block-returns-then-is_some-clause-result_value : goal.sweep_block-returns-then-is_some-clause-result_value
sweep_block-returns-then-is_some-clause-result_value t c =
    let some : is_some c.settle-held.result ≡ true = search rules in
    laws.block_held c.requires c.split_at_mut-places.ensures.front c.settle-held.ensures some

pub sweep_block-returns-then-is_some-clause-out_after : goal.sweep_block-returns-then-is_some-clause-out_after
sweep_block-returns-then-is_some-clause-out_after t c =
    let some : is_some c.settle-held.result ≡ true = search rules in
    laws.block_unwritten c.requires c.split_at_mut-places.ensures.front c.settle-held.ensures some _

pub sweep_block-push_lows-halved-requires-clause-inside : goal.sweep_block-push_lows-halved-requires-clause-inside
sweep_block-push_lows-halved-requires-clause-inside t c =
    laws.block_inside c.requires c.split_at_mut-places.ensures.front

pub sweep_block-push_lows-halved-requires-clause-lows_fit : goal.sweep_block-push_lows-halved-requires-clause-lows_fit
sweep_block-push_lows-halved-requires-clause-lows_fit t c =
    let none : is_some c.settle-held.result ≡ false = search rules in
    laws.lower_room c.requires c.split_at_mut-places.ensures.front c.settle-held.ensures none _ c.split_at_mut-places.ensures.back_len

pub sweep_block-overflow_sub-left : goal.sweep_block-overflow_sub-left
sweep_block-overflow_sub-left t c =
    let none : is_some c.settle-held.result ≡ false = search rules in
    laws.block_left_lem c.requires c.split_at_mut-places.ensures.front c.settle-held.ensures none

pub sweep_block-overflow_sub-left-then-sweep-left : goal.sweep_block-overflow_sub-left-then-sweep-left
sweep_block-overflow_sub-left-then-sweep-left t c =
    let none : is_some c.settle-held.result ≡ false = search rules in
    laws.block_left_lem c.requires c.split_at_mut-places.ensures.front c.settle-held.ensures none

pub sweep_block-sweep_across-piece-requires : goal.sweep_block-sweep_across-piece-requires
sweep_block-sweep_across-piece-requires t c =
    let none : is_some c.settle-held.result ≡ false = search rules in (
      omega (arith, c.decreases, laws.block_left_lem c.requires c.split_at_mut-places.ensures.front c.settle-held.ensures none),
      laws.across_asks c.requires
          c.split_at_mut-places.ensures.front c.settle-held.ensures none _ c.split_at_mut-places.ensures.back_len c.push_lows-halved.ensures.value
          c.push_lows-halved.ensures.lows_after c.if-sweep-left.true,
    )

pub sweep_block-offset_bounds-rest-halved : goal.sweep_block-offset_bounds-rest-halved
sweep_block-offset_bounds-rest-halved t c =
    let none : is_some c.settle-held.result ≡ false = search rules in
    let ends = laws.across_ends c.requires c.split_at_mut-places.ensures.front c.settle-held.ensures none _ c.split_at_mut-places.ensures.back_len
    c.push_lows-halved.ensures.value c.push_lows-halved.ensures.lows_after c.if-sweep-left.true _ c.sweep_across-piece.auto.work in
    search (rules, ends.0)

pub sweep_block-slice_bounds-pull_back-count : goal.sweep_block-slice_bounds-pull_back-count
sweep_block-slice_bounds-pull_back-count t c =
    let none : is_some c.settle-held.result ≡ false = search rules in
    let ends = laws.across_ends c.requires c.split_at_mut-places.ensures.front c.settle-held.ensures none _ c.split_at_mut-places.ensures.back_len
    c.push_lows-halved.ensures.value c.push_lows-halved.ensures.lows_after c.if-sweep-left.true _ c.sweep_across-piece.auto.work in
    search (rules, ends.0)

pub sweep_block-slice_bounds-pull_back-start : goal.sweep_block-slice_bounds-pull_back-start
sweep_block-slice_bounds-pull_back-start t c =
    let none : is_some c.settle-held.result ≡ false = search rules in
    let ends = laws.across_ends c.requires c.split_at_mut-places.ensures.front c.settle-held.ensures none _ c.split_at_mut-places.ensures.back_len
    c.push_lows-halved.ensures.value c.push_lows-halved.ensures.lows_after c.if-sweep-left.true _ c.sweep_across-piece.auto.work in
    search (rules, ends.0)

pub sweep_block-pull_back-requires-clause-inside : goal.sweep_block-pull_back-requires-clause-inside
sweep_block-pull_back-requires-clause-inside t c =
    laws.block_inside c.requires c.split_at_mut-places.ensures.front

pub sweep_block-pull_back-requires-clause-ends_suffice : goal.sweep_block-pull_back-requires-clause-ends_suffice
sweep_block-pull_back-requires-clause-ends_suffice t c =
    let none : is_some c.settle-held.result ≡ false = search rules in
    (laws.across_ends c.requires c.split_at_mut-places.ensures.front c.settle-held.ensures none _ c.split_at_mut-places.ensures.back_len
    c.push_lows-halved.ensures.value c.push_lows-halved.ensures.lows_after c.if-sweep-left.true _ c.sweep_across-piece.auto.work).1

pub sweep_block-returns-then-sweep-left-clause-result_value : goal.sweep_block-returns-then-sweep-left-clause-result_value
sweep_block-returns-then-sweep-left-clause-result_value t c =
    let none : is_some c.settle-held.result ≡ false = search rules in
    c.sweep_across-piece.ensures.result_value ∙ ap (piece_of _)
    (laws.across_is c.requires c.split_at_mut-places.ensures.front c.settle-held.ensures none _ c.split_at_mut-places.ensures.back_len
    c.push_lows-halved.ensures.value c.push_lows-halved.ensures.lows_after c.if-sweep-left.true)

pub sweep_block-returns-then-sweep-left-clause-out_after : goal.sweep_block-returns-then-sweep-left-clause-out_after
sweep_block-returns-then-sweep-left-clause-out_after t c =
    let none : is_some c.settle-held.result ≡ false = search rules in
    c.sweep_across-piece.ensures.out_after ∙ ap (laid _ _)
    (laws.across_is c.requires c.split_at_mut-places.ensures.front c.settle-held.ensures none _ c.split_at_mut-places.ensures.back_len
    c.push_lows-halved.ensures.value c.push_lows-halved.ensures.lows_after c.if-sweep-left.true)

pub sweep_block-returns-then-sweep-left-clause-fact : goal.sweep_block-returns-then-sweep-left-clause-fact
sweep_block-returns-then-sweep-left-clause-fact t c =
    let m = c.push_lows-halved.result in
    let moved = c.sweep_across-piece.new.work in
    let none : is_some c.settle-held.result ≡ false = search rules in
    laws.block_back c.requires c.split_at_mut-places.ensures.front c.settle-held.ensures none _ c.split_at_mut-places.ensures.back_len
    c.push_lows-halved.ensures.value c.push_lows-halved.ensures.lows_after _ _ (ap (take m) (take_rest moved m) ∙ c.sweep_across-piece.ensures.fact)
    c.pull_back.ensures

pub sweep_block-overflow_sub-left-2 : goal.sweep_block-overflow_sub-left-2
sweep_block-overflow_sub-left-2 t c =
    let none : is_some c.settle-held.result ≡ false = search rules in
    laws.block_left_lem c.requires c.split_at_mut-places.ensures.front c.settle-held.ensures none

pub sweep_block-sweep_halves-piece-requires : goal.sweep_block-sweep_halves-piece-requires
sweep_block-sweep_halves-piece-requires t c =
    let none : is_some c.settle-held.result ≡ false = search rules in (
      omega (arith, c.decreases, laws.block_left_lem c.requires c.split_at_mut-places.ensures.front c.settle-held.ensures none),
      laws.halves_asks c.requires
          c.split_at_mut-places.ensures.front c.settle-held.ensures none _ c.split_at_mut-places.ensures.back_len c.push_lows-halved.ensures.value
          c.push_lows-halved.ensures.lows_after c.if-sweep-left.false,
    )

pub sweep_block-pull_back-requires-2-clause-inside : goal.sweep_block-pull_back-requires-2-clause-inside
sweep_block-pull_back-requires-2-clause-inside t c =
    laws.block_inside c.requires c.split_at_mut-places.ensures.front

pub sweep_block-pull_back-requires-2-clause-ends_suffice : goal.sweep_block-pull_back-requires-2-clause-ends_suffice
sweep_block-pull_back-requires-2-clause-ends_suffice t c =
    let none : is_some c.settle-held.result ≡ false = search rules in
    laws.halves_ends c.requires c.split_at_mut-places.ensures.front c.settle-held.ensures none _ c.split_at_mut-places.ensures.back_len
    c.push_lows-halved.ensures.value c.push_lows-halved.ensures.lows_after c.if-sweep-left.false _ c.sweep_halves-piece.auto.work

pub sweep_block-returns-clause-result_value : goal.sweep_block-returns-clause-result_value
sweep_block-returns-clause-result_value t c =
    let none : is_some c.settle-held.result ≡ false = search rules in
    c.sweep_halves-piece.ensures.result_value ∙ ap (piece_of _)
    (laws.halves_is c.requires c.split_at_mut-places.ensures.front c.settle-held.ensures none _ c.split_at_mut-places.ensures.back_len
    c.push_lows-halved.ensures.value c.push_lows-halved.ensures.lows_after c.if-sweep-left.false)

pub sweep_block-returns-clause-out_after : goal.sweep_block-returns-clause-out_after
sweep_block-returns-clause-out_after t c =
    let none : is_some c.settle-held.result ≡ false = search rules in
    c.sweep_halves-piece.ensures.out_after ∙ ap (laid _ _)
    (laws.halves_is c.requires c.split_at_mut-places.ensures.front c.settle-held.ensures none _ c.split_at_mut-places.ensures.back_len
    c.push_lows-halved.ensures.value c.push_lows-halved.ensures.lows_after c.if-sweep-left.false)

pub sweep_block-returns-clause-fact : goal.sweep_block-returns-clause-fact
sweep_block-returns-clause-fact t c =
    let none : is_some c.settle-held.result ≡ false = search rules in
    laws.block_back c.requires c.split_at_mut-places.ensures.front c.settle-held.ensures none _ c.split_at_mut-places.ensures.back_len
    c.push_lows-halved.ensures.value c.push_lows-halved.ensures.lows_after _ _ c.sweep_halves-piece.ensures.fact c.pull_back-2.ensures

-- ---- `sweep_halves`

pub sweep_halves-sweep_block-above-requires : goal.sweep_halves-sweep_block-above-requires
sweep_halves-sweep_block-above-requires t c = (
  omega (arith, c.decreases),
  parts.high_asks c.requires _ c.sweep_block-below.ensures.result_value c.sweep_block-below.ensures.fact
      c.sweep_block-below.auto.work,
)

pub sweep_halves-returns-then-is_alike-clause-result_value : goal.sweep_halves-returns-then-is_alike-clause-result_value
sweep_halves-returns-then-is_alike-clause-result_value t c =
    (parts.halves_alike c.requires _ c.sweep_block-below.ensures.result_value c.sweep_block-below.ensures.fact c.sweep_block-below.auto.work _ _ _
    c.sweep_block-below.ensures.out_after c.sweep_block-above.ensures.result_value c.sweep_block-above.ensures.out_after c.is_alike.ensures
    c.if-is_alike.true).0

pub sweep_halves-returns-then-is_alike-clause-out_after : goal.sweep_halves-returns-then-is_alike-clause-out_after
sweep_halves-returns-then-is_alike-clause-out_after t c =
    (parts.halves_alike c.requires _ c.sweep_block-below.ensures.result_value c.sweep_block-below.ensures.fact c.sweep_block-below.auto.work _ _ _
    c.sweep_block-below.ensures.out_after c.sweep_block-above.ensures.result_value c.sweep_block-above.ensures.out_after c.is_alike.ensures
    c.if-is_alike.true).1

pub sweep_halves-returns-clause-result_value : goal.sweep_halves-returns-clause-result_value
sweep_halves-returns-clause-result_value t c =
    (parts.halves_apart c.requires _ c.sweep_block-below.ensures.result_value c.sweep_block-below.ensures.fact c.sweep_block-below.auto.work _ _ _
    c.sweep_block-below.ensures.out_after c.sweep_block-above.ensures.result_value c.sweep_block-above.ensures.out_after c.is_alike.ensures
    c.if-is_alike.false c.unwrap_or.ensures c.unwrap_or-2.ensures c.join_halves.ensures).0

pub sweep_halves-returns-clause-out_after : goal.sweep_halves-returns-clause-out_after
sweep_halves-returns-clause-out_after t c =
    (parts.halves_apart c.requires _ c.sweep_block-below.ensures.result_value c.sweep_block-below.ensures.fact c.sweep_block-below.auto.work _ _ _
    c.sweep_block-below.ensures.out_after c.sweep_block-above.ensures.result_value c.sweep_block-above.ensures.out_after c.is_alike.ensures
    c.if-is_alike.false c.unwrap_or.ensures c.unwrap_or-2.ensures c.join_halves.ensures).1
