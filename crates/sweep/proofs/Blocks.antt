-- Laws of `sweep_block` (src/block.rt), each with the premises that it has at that point: what a call asks of the places, and what a block comes to.
use mathlib.Core.Path.{◌≡◌, refl, sym, ap, ap₂, subst, ◌∙◌}
use mathlib.Core.Bool.{true, false}
use mathlib.Core.List.{List, ◌∷◌, ◌++◌}
use Prim.Native.Nat.{ℕ, suc, ◌+◌, ◌-◌, ◌*◌, ◌≤◌}
use native.Mathlib.Omega.{arith}
use native.Mathlib.Decide.{ℕ_discrete}
use lib.ListN.{length, get_or, take, drop, length-drop, take-append-drop}
use lib.Seq.{length-take-le, take_at, sets, length-sets}
use Rattle.std.specs.Prelude.{Option, Some, is_some}
use Rattle.std.proofs.lemmas.List.{take_rest}
use Rattle.bintree.specs.declared.Colour.TheVariants.{White}
use Rattle.bintree.specs.Shape.{leaf, halved, symbol_of, size}
use Rattle.bintree.specs.Merging.{merged}
use Rattle.bintree.specs.Walks.{laid}
use Rattle.bintree.proofs.Lays.{leaf_laid}
use Rattle.sweep.specs.declared.block.Piece.{Piece}
use Rattle.sweep.specs.declared.block.Sweep.{Sweep}
use Rattle.sweep.specs.Sweeping.{swept}
use Rattle.sweep.specs.Places.{unions, lows, highs, swept_trees, trees_at, Stand, settled, past_all, low_places, pulled}
use Rattle.sweep.specs.Places.{Inside, order_left, slots_for, Sweeping, Halving}
use Rattle.sweep.specs.Places.{swept_across, swept_halves, swept_block, held_leaf, piece_of}
use Rattle.sweep.proofs.Trees.{stand_trees, Closed, closed, Open, opened, never_open, low_stand, high_stand}
use Rattle.sweep.proofs.Trees.{pulled_ends, few_lows, past_length, halves_total}
use Rattle.sweep.proofs.Trees.{swept_closed, swept_across_lem, swept_halves_lem, slots_least, slots_mono, slots_across, slots_halves}
use Rattle.sweep.proofs.Lists.{piece_eq, sets_front, stand_places, stand_count}

-- ---- `sweep_block`

module _ {sweep : Sweep} {left : ℕ} {work : List ℕ} {n at : ℕ} (g : Sweeping sweep left work n at) where
  abbrev s : List ℕ
  s = sweep.expression.now

  abbrev axes : List ℕ
  axes = sweep.axes.now

  abbrev j : ℕ
  j = sweep.axis

  pub block_fits : n ≤ length work
  block_fits = omega (arith, g.fits, slots_least (order_left axes left) j n)

  trees_are : trees_at s left (take n work) ≡ g.trees
  trees_are = stand_trees g.stand

  -- the ends of the trees stand where their places stood
  front : {ends : List ℕ} (rest : List ℕ) → ends ≡ past_all s (take n work) → take n (ends ++ rest) ≡ past_all s (take n work)
  front {ends} rest e =
      let long : length ends ≡ n = ap length e ∙ past_length s (take n work) ∙ length-take-le n work block_fits in
      take_at ends rest n long ∙ e

  module _ {places : List ℕ} (p : places ≡ take n work) where
    here : Stand s left places g.trees
    here = subst (λ l. Stand s left l g.trees) (sym p) g.stand

    count : length places ≡ n
    count = ap length p ∙ length-take-le n work block_fits

    pub block_inside : Inside s places
    block_inside = stand_places here

    module _ {held : Option ℕ} (e : held ≡ settled s (Some (symbol_of White)) places) where
      -- a block of one colour
      module _ (k : is_some held ≡ true) where
        shut : Closed g.trees held
        shut = subst (Closed g.trees) (sym e) (closed here (ap is_some (sym e) ∙ k))

        is_leaf : swept_block sweep left work n ≡ leaf shut.colour
        is_leaf = swept_closed (order_left axes left) j (trees_at s left (take n work)) shut.colour (ap unions trees_are ∙ shut.is)

        pub block_held : ◌≡◌ {A = Piece} (record { held = held; end = at + 1 }) (piece_of at (swept_block sweep left work n))
        unfolding held_leaf size
        block_held = piece_eq shut.symbol refl ∙ ap (piece_of at) (sym is_leaf)

        pub block_unwritten : (out : List ℕ) → out ≡ laid out at (swept_block sweep left work n)
        block_unwritten out = sym (leaf_laid out at shut.colour is_leaf)

      -- one that is halved: the low halves' places are written behind the list
      module _ (k : is_some held ≡ false) where
        still : is_some (settled s (Some (symbol_of White)) places) ≡ false
        still = ap is_some (sym e) ∙ k

        open_trees : Open g.trees
        open_trees = opened here still

        pub block_left_lem : 1 ≤ left
        block_left_lem = never_open here still

        order_is : order_left axes left ≡ get_or axes (left - 1) 0 ∷ order_left axes (left - 1)
        unfolding order_left
        order_is = ap (order_left axes) (let d : left ≡ suc (left - 1) = omega (arith, block_left_lem) in d)

        stand_next : Stand s (suc (left - 1)) places g.trees
        stand_next = subst (λ m. Stand s m places g.trees) (let d : left ≡ suc (left - 1) = omega (arith, block_left_lem) in d) here

        across_room : get_or axes (left - 1) 0 ≡ j → n + slots_for (order_left axes (left - 1)) j (2 * n) ≤ length work
        across_room x =
            omega (arith, g.fits, ap (λ o. slots_for o j n) order_is ∙ slots_across (get_or axes (left - 1) 0) (order_left axes (left - 1)) j n x)

        halves_room : (get_or axes (left - 1) 0 ≡ j → ⊥) → n + slots_for (order_left axes (left - 1)) j n ≤ length work
        halves_room x =
            omega (arith, g.fits, ap (λ o. slots_for o j n) order_is ∙ slots_halves (get_or axes (left - 1) 0) (order_left axes (left - 1)) j n x)

        -- room for the low halves' places, whichever axis is halved
        twice : n + n ≤ length work
        twice = go (ℕ_discrete (get_or axes (left - 1) 0) j)
          where
            go : Dec (get_or axes (left - 1) 0 ≡ j) → n + n ≤ length work
            go (yes x) = omega (arith, across_room x, slots_least (order_left axes (left - 1)) j (2 * n))
            go (no x) = omega (arith, halves_room x, slots_least (order_left axes (left - 1)) j n)

        module _ (rest : List ℕ) (r : length rest + n ≡ length work) where
          pub lower_room : length places ≤ length rest
          lower_room = omega (arith, count, twice)

          module _ {m : ℕ} {lower : List ℕ} (c : m ≡ length (low_places s places)) (f : lower ≡ sets rest 0 (low_places s places)) where
            pub lower_few : m ≤ n
            lower_few = omega (arith, c, few_lows s places, count)

            pub lower_length : length lower ≡ length rest
            lower_length = ap length f ∙ length-sets rest 0 (low_places s places)

            lower_places : take m lower ≡ low_places s places
            lower_places = ap₂ take c f ∙ sets_front (low_places s places) rest (omega (arith, c, lower_few, count, lower_room))

            low_there : Stand s (left - 1) (take m lower) (lows g.trees)
            low_there = subst (λ l. Stand s (left - 1) l (lows g.trees)) (sym lower_places) (low_stand stand_next)

            high_there : Stand s (left - 1) (past_all s (take m lower)) (highs g.trees)
            high_there = subst (λ l. Stand s (left - 1) (past_all s l) (highs g.trees)) (sym lower_places) (high_stand stand_next)

            halving : (most : ℕ) → slots_for (order_left axes (left - 1)) j most ≤ length lower → Halving sweep (left - 1) lower m most at
            halving most h = record {
              few = omega (arith, g.few);
              some = omega (arith, open_trees.some, stand_count lower m low_there (omega (arith, lower_length, lower_few, lower_room, count)));
              low_trees = lows g.trees;
              high_trees = highs g.trees;
              low_stand = low_there;
              high_stand = high_there;
              fits = h;
              short = omega (arith, g.short, g.some, halves_total g.trees, stand_count work n g.stand block_fits);
            }

            -- back from the halves, by their ends
            pub block_back : (ends moved : List ℕ) {left₁ : List ℕ} → take m ends ≡ past_all s (past_all s (take m lower)) → left₁ ≡ pulled s places ends →
                take n (left₁ ++ moved) ≡ past_all s (take n work)
            block_back ends moved w b =
                let all = drop m ends in
                front moved
                (b
                ∙ ap (pulled s places) (sym (take-append-drop m ends) ∙ ap (λ l. l ++ all) (w ∙ ap (λ l. past_all s (past_all s l)) lower_places))
                ∙ pulled_ends stand_next all
                ∙ ap (past_all s) p)

            -- at a level of the dropped axis
            module _ (x : get_or axes (left - 1) 0 ≡ j) where
              pub across_asks : Halving sweep (left - 1) lower m (2 * m) at
              across_asks =
                  halving (2 * m)
                  (omega (
                    arith,
                    lower_length,
                    across_room x,
                    slots_mono (order_left axes (left - 1)) j (2 * m) (2 * n) (omega (arith, lower_few)),
                  ))

              pub across_is : swept_across sweep (left - 1) lower m ≡ swept_block sweep left work n
              across_is =
                  ap₂ (λ a b. swept_trees (order_left axes (left - 1)) j (a ++ b)) (stand_trees low_there) (stand_trees high_there)
                  ∙ sym (ap₂ (λ o ts. swept_trees o j ts) order_is trees_are
                  ∙ swept_across_lem (get_or axes (left - 1) 0) (order_left axes (left - 1)) j g.trees open_trees x)

              pub across_ends : (moved : List ℕ) → length moved ≡ length lower →
                  (m ≤ length moved) × (length places ≤ length (take (length moved - m) (drop m moved)))
              across_ends moved q =
                  let room = slots_least (order_left axes (left - 1)) j (2 * n) in (
                    omega (arith, lower_few, lower_length, count, lower_room),
                    rw (take_rest moved m) (omega (arith, across_room x, room, count, lower_few, lower_length, length-drop m moved)),
                  )

            -- at another level
            module _ (x : get_or axes (left - 1) 0 ≡ j → ⊥) where
              pub halves_asks : Halving sweep (left - 1) lower m m at
              halves_asks =
                  halving m (omega (arith, lower_length, halves_room x, slots_mono (order_left axes (left - 1)) j m n lower_few))

              pub halves_is : swept_halves sweep (left - 1) lower m ≡ swept_block sweep left work n
              halves_is =
                  ap₂ (λ a b. merged (halved (swept (order_left axes (left - 1)) j (unions a)) (swept (order_left axes (left - 1)) j (unions b))))
                  (stand_trees low_there) (stand_trees high_there)
                  ∙ sym (ap₂ (λ o ts. swept_trees o j ts) order_is trees_are
                  ∙ swept_halves_lem (get_or axes (left - 1) 0) (order_left axes (left - 1)) j g.trees open_trees x)

              pub halves_ends : (moved : List ℕ) → length moved ≡ length lower → length places ≤ length moved
              halves_ends moved q = omega (arith, lower_length, lower_room)
