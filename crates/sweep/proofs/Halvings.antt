-- Laws of `sweep_across` and `sweep_halves` (src/block.rt): what they ask of the places, and what trees that are halved across the dropped axis, and across
-- another one, come to.
use mathlib.Core.Path.{◌≡◌, sym, ap, ap₂, subst, ◌∙◌}
use mathlib.Core.Bool.{Bool, true, false}
use mathlib.Core.List.{List, ◌++◌, append_assoc}
use Prim.Native.Nat.{ℕ, suc, ◌+◌, ◌*◌, ◌≤◌}
use native.Mathlib.Omega.{arith}
use lib.ListN.{length, take, drop, length-append, length-drop}
use lib.Seq.{length-take-le, take_at, drop_at}
use Rattle.std.proofs.lemmas.List.{drop-take}
use Rattle.std.specs.Prelude.{None, unwrap_or}
use Rattle.bintree.specs.Shape.{Shape, size}
use Rattle.bintree.specs.Merging.{merged}
use Rattle.bintree.specs.Walks.{leaf_symbol, is_alike, joined_halves, laid}
use Rattle.bintree.proofs.Lays.{merged_same, merged_apart, leaf_laid, apart_laid}
use Rattle.sweep.specs.declared.block.Piece.{Piece}
use Rattle.sweep.specs.declared.block.Sweep.{Sweep}
use Rattle.sweep.specs.Sweeping.{swept}
use Rattle.sweep.specs.Places.{unions, total, swept_trees, trees_at, Stand, past_all}
use Rattle.sweep.specs.Places.{order_left, Sweeping, Halving, lows_at, highs_at}
use Rattle.sweep.specs.Places.{swept_across, swept_halves, swept_block, is_same, held_leaf, piece_of}
use Rattle.sweep.proofs.Trees.{stand_trees, stand_append}
use Rattle.sweep.proofs.Trees.{past_length, past_append, total_append, swept_trees_size}
use Rattle.sweep.proofs.Trees.{slots_least}
use Rattle.sweep.proofs.Lists.{piece_eq, stand_count, held_alike, held_written}

-- ---- `sweep_across`

module _ {sweep : Sweep} {left : ℕ} {work : List ℕ} {n at : ℕ} (h : Halving sweep left work n (2 * n) at) where
  abbrev s : List ℕ
  s = sweep.expression.now

  abbrev axes : List ℕ
  axes = sweep.axes.now

  abbrev j : ℕ
  j = sweep.axis

  pub pair_fits : n + n ≤ length work
  pair_fits = omega (arith, h.fits, slots_least (order_left axes left) j (2 * n))

  count : length (take n work) ≡ n
  count = length-take-le n work (omega (arith, pair_fits))

  -- where the places of the high halves are written behind those of the low ones
  module _ {low high : List ℕ} (rest : List ℕ) (a : low ≡ take n work) (b : high ≡ past_all s low) (r : length rest + n ≡ length work) where
    high_count : length high ≡ n
    high_count = ap length b ∙ past_length s low ∙ ap length a ∙ count

    pub paired_length : length (low ++ (high ++ drop n rest)) ≡ length work
    paired_length =
        let long = length-append low (high ++ drop n rest) in
        omega (arith, long, length-append high (drop n rest), length-drop n rest, high_count, ap length a ∙ count, pair_fits)

    pub paired_places : take (2 * n) (low ++ (high ++ drop n rest)) ≡ take n work ++ past_all s (take n work)
    paired_places =
        ap (take (2 * n)) (sym (append_assoc low high (drop n rest)))
        ∙ take_at (low ++ high) (drop n rest) (2 * n) (omega (arith, length-append low high, high_count, ap length a ∙ count))
        ∙ ap₂ ◌++◌ a (b ∙ ap (past_all s) a)

  -- both halves of each stand in one list
  module _ (paired : List ℕ) (q : length paired ≡ length work) (e : take (2 * n) paired ≡ take n work ++ past_all s (take n work)) where
    paired_stand : Stand s left (take (2 * n) paired) (h.low_trees ++ h.high_trees)
    paired_stand = subst (λ l. Stand s left l (h.low_trees ++ h.high_trees)) (sym e) (stand_append h.low_stand h.high_stand)

    pub paired_asks : Sweeping sweep left paired (2 * n) at
    paired_asks = record {
      few = h.few;
      some = omega (arith, h.some);
      trees = h.low_trees ++ h.high_trees;
      stand = paired_stand;
      fits = omega (arith, q, h.fits);
      short = omega (arith, h.short, total_append h.low_trees h.high_trees);
    }

    pub paired_is : swept_block sweep left paired (2 * n) ≡ swept_across sweep left work n
    paired_is =
        ap (swept_trees (order_left axes left) j) (stand_trees paired_stand)
        ∙ sym (ap₂ (λ a b. swept_trees (order_left axes left) j (a ++ b)) (stand_trees h.low_stand) (stand_trees h.high_stand))

    -- the ends of the high halves are the second half of the list's
    pub paired_ends : (moved : List ℕ) → take (2 * n) moved ≡ past_all s (take (2 * n) paired) →
        take n (drop n moved) ≡ past_all s (past_all s (take n work))
    paired_ends moved w =
        let lower = past_all s (take n work) in
        let twice : 2 * n ≡ n + n = omega arith in
        sym (drop-take n n moved)
        ∙ ap (λ k. drop n (take k moved)) (sym twice)
        ∙ ap (drop n) (w ∙ ap (past_all s) e ∙ past_append s (take n work) lower)
        ∙ drop_at lower (past_all s lower) n (past_length s (take n work) ∙ count)

-- ---- `sweep_halves`

module _ {sweep : Sweep} {left : ℕ} {work : List ℕ} {n at : ℕ} (h : Halving sweep left work n n at) where
  half_fits : n ≤ length work
  half_fits = omega (arith, h.fits, slots_least (order_left sweep.axes.now left) sweep.axis n)

  low_shape : Shape
  low_shape = swept (order_left sweep.axes.now left) sweep.axis (unions (lows_at sweep.expression.now left work n))

  high_shape : Shape
  high_shape = swept (order_left sweep.axes.now left) sweep.axis (unions (highs_at sweep.expression.now left work n))

  low_size : size (swept_block sweep left work n) ≤ total h.low_trees
  low_size =
      subst (λ ts. size (swept_trees (order_left sweep.axes.now left) sweep.axis ts) ≤ total h.low_trees) (sym (stand_trees h.low_stand))
      (swept_trees_size (order_left sweep.axes.now left) sweep.axis h.low_trees (omega (arith, h.some, stand_count work n h.low_stand half_fits)))

  -- the low halves are swept, and their slots hold the high ones
  module _ {below : Piece} (moved : List ℕ) (p : below ≡ piece_of (at + 1) (swept_block sweep left work n))
      (w : take n moved ≡ past_all sweep.expression.now (take n work)) (q : length moved ≡ length work) where
    pub high_asks : Sweeping sweep left moved n below.end
    high_asks = record {
      few = h.few;
      some = h.some;
      trees = h.high_trees;
      stand = subst (λ l. Stand sweep.expression.now left l h.high_trees) (sym w) h.high_stand;
      fits = omega (arith, h.fits, q);
      short = omega (arith, h.short, ap (λ (x : Piece). x.end) p, low_size);
    }

    -- both are laid: joined, the two are the whole
    module _ {above : Piece} (out one two : List ℕ) (a : one ≡ laid out (at + 1) (swept_block sweep left work n))
        (r : above ≡ piece_of below.end (swept_block sweep left moved n)) (b : two ≡ laid one below.end
        (swept_block sweep left moved n)) where
      high_is : swept_block sweep left moved n ≡ merged high_shape
      unfolding high_shape
      high_is = ap (λ l. swept_trees (order_left sweep.axes.now left) sweep.axis (trees_at sweep.expression.now left l)) w

      low_held : below.held ≡ held_leaf (merged low_shape)
      unfolding low_shape
      low_held = ap (λ (x : Piece). x.held) p

      low_end : below.end ≡ at + 1 + size (merged low_shape)
      unfolding low_shape
      low_end = ap (λ (x : Piece). x.end) p

      high_held : above.held ≡ held_leaf (merged high_shape)
      high_held = ap (λ (x : Piece). x.held) r ∙ ap held_leaf high_is

      high_end : above.end ≡ below.end + size (merged high_shape)
      high_end = ap (λ (x : Piece). x.end) r ∙ ap (λ t. below.end + size t) high_is

      tested : {f t : Bool} → f ≡ is_same below.held above.held → f ≡ t → is_alike (leaf_symbol (merged low_shape)) (leaf_symbol (merged high_shape)) ≡ t
      tested e f = sym (held_alike (merged low_shape) (merged high_shape)) ∙ ap₂ is_same (sym low_held) (sym high_held) ∙ sym e ∙ f

      module _ {f : Bool} (e : f ≡ is_same below.held above.held) where
        pub halves_alike : f ≡ true →
            (◌≡◌ {A = Piece} (record { held = below.held; end = at + 1 }) (piece_of at (swept_halves sweep left work n)))
            × (two ≡ laid out at (swept_halves sweep left work n))
        unfolding low_shape high_shape size
        halves_alike t =
            let m = merged_same low_shape high_shape (tested e t) in (
              piece_eq (low_held ∙ ap held_leaf (m.1 ∙ sym m.3)) (ap (λ x. at + size x) (sym m.3)),
              b
                  ∙ leaf_laid one below.end m.0 (high_is ∙ m.2)
                  ∙ a
                  ∙ leaf_laid out (at + 1) m.0 m.1
                  ∙ sym (leaf_laid out at m.0 m.3),
            )

        pub halves_apart : {three : List ℕ} {x y : ℕ} → f ≡ false → x ≡ unwrap_or below.held 0 → y ≡ unwrap_or above.held 0 →
            three ≡ joined_halves two at x below.end y →
            (◌≡◌ {A = Piece} (record { held = None; end = above.end }) (piece_of at (swept_halves sweep left work n)))
            × (three ≡ laid out at (swept_halves sweep left work n))
        unfolding low_shape high_shape size held_leaf
        halves_apart {three} t x y k =
            let m = merged_apart low_shape high_shape (tested e t) in
            let end : above.end ≡ at + suc (size (merged low_shape) + size (merged high_shape)) = omega (arith, low_end, high_end) in
            let whole = apart_laid out one two three at below.end _ _ (merged low_shape) (merged high_shape) in (
              piece_eq (sym (ap held_leaf m)) (end ∙ sym (ap (λ x. at + size x) m)),
              whole a (b ∙ ap (laid one below.end) high_is) low_end (x ∙ ap (λ o. unwrap_or o 0) low_held ∙ held_written (merged low_shape))
                  (y ∙ ap (λ o. unwrap_or o 0) high_held ∙ held_written (merged high_shape)) k ∙ ap (laid out at) (sym m),
            )
