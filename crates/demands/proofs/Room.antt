-- Demand 3: every expression fits into room. A tree is undecided over a block only where one of its halfspace leaves is active, and each leaf is
-- active over at most Π ni − Π (ni − 1) blocks of a level; so a level has at most what it counts, and the blocks examined are at most 1 and two for
-- each undecided block above level L. That is room; the raw expression has a symbol for each block examined, the merged one no more. With a ball a level
-- counts all its blocks, and needs no more than that.
use Prim.Native.Nat.{ℕ, ◌+◌, ◌*◌, ◌-◌, ◌≤◌, min}
use mathlib.Core.Path.{◌≡◌, refl, ap}
use mathlib.Core.Bool.{Bool, true, false, cond}
use mathlib.Core.Logic.{◌⊎◌, ⊎_elim}
use native.Mathlib.Omega.{arith}
use native.Mathlib.Nat.{le-min, le_trans, le_of_eq}
use lib.Dec.{eqb}
use lib.ListN.{length}
use borrow.Author.Tests.{eqb-true}
use Rattle.lemmas.specs.Grid.{grid}
use Rattle.lemmas.proofs.Sums.{sum_mono}
use Rattle.lemmas.proofs.Grid.{grid_mono, grid_add, grid_const}
use Rattle.universe.specs.declared.Universe.{Universe}
use Rattle.universe.specs.declared.Block.{Block}
use Rattle.universe.specs.Universe.{universe_refusal, levels, blocks_along}
use Rattle.universe.specs.Block.{whole_block}
use Rattle.universe.specs.Room.{blocks_at, inner_blocks_at, level_count, room}
use Rattle.universe.proofs.Universes.{Accepted, accepted}
use Rattle.universe.proofs.Rooms.{inner_fewer}
use Rattle.bintree.specs.Shape.{symbols}
use Rattle.bintree.specs.Merging.{merged}
use Rattle.bintree.proofs.Shape.{length_symbols}
use Rattle.bintree.proofs.Merging.{merged_size}
use Rattle.csg.specs.Halfspace.{Mark, decided, undecided, row_at}
use Rattle.csg.specs.Surfaces.{Surfaces, Surface, halfspace, ball, count_halfspace, count_ball}
use Rattle.csg.specs.Tree.{Tree, Plain, colour, side, union_of, intersection_of, plain, count_sides, leaves, ball_leaves}
use Rattle.csg.specs.Marks.{opposite_mark, surface_mark, side_mark, plain_mark, tree_mark}
use Rattle.csg.specs.Raw.{raw, blocks_examined}
use Rattle.csg.proofs.Tree.{sides_plain}
use Rattle.csg.proofs.Marks.{side_mark_lem, union_undecided, intersection_undecided}
use Rattle.csg.proofs.Raw.{raw_length}
use Rattle.demands.specs.Room.{RoomSuffices}
use Rattle.demands.proofs.Counting.{below, grid_block, level_grid, count_undecided, examined_most}
use Rattle.demands.proofs.Crossing.{active_blocks}

-- ---- a tree of two sons is undecided only where a son is
sons_most : (o m n : Mark) → (o ≡ undecided → (m ≡ undecided) ⊎ (n ≡ undecided)) → count_undecided o ≤ count_undecided m + count_undecided n
sons_most (decided c) m n h = omega arith
sons_most undecided m n h = ⊎_elim (λ e. rw e (omega arith)) (λ e. rw e (omega arith)) (h refl)

-- and a side only where its surface is
side_most : (surfaces : Surfaces) (turned : Bool) (s : Surface) (b : Block) →
    count_undecided (side_mark surfaces turned s b) ≤ count_undecided (surface_mark surfaces s b)
side_most surfaces turned s b = rw (side_mark_lem surfaces turned s b) (by turned (surface_mark surfaces s b))
  where
    by : (t : Bool) (m : Mark) → count_undecided (cond t (opposite_mark m) m) ≤ count_undecided m
    by true (decided c) = omega arith
    by true undecided = omega arith
    by false m = omega arith

one_most : (m : Mark) → count_undecided m ≤ 1
one_most (decided c) = omega arith
one_most undecided = omega arith

less_taken : {x : ℕ} (n b i : ℕ) → i ≤ b → x + n * i ≤ n * b → x ≤ n * (b - i)
less_taken n b i h k =
    let e : b ≡ i + (b - i) = omega arith in
    omega (arith, ap (λ (y : ℕ). n * y) e)

-- ---- the undecided blocks of a level
module _ (u : Universe) (accept : Accepted u) (surfaces : Surfaces) (l : ℕ) where
  -- how many blocks of level l a plain tree leaves undecided
  abbrev undecided_blocks : Plain → ℕ
  undecided_blocks p = grid u.axes (blocks_along u l) (λ q. count_undecided (plain_mark surfaces p (grid_block u l q)))

  of_sons : (a b c : Plain) →
      ((q : Block) → plain_mark surfaces c q ≡ undecided → (plain_mark surfaces a q ≡ undecided) ⊎ (plain_mark surfaces b q ≡ undecided)) →
      undecided_blocks c ≤ undecided_blocks a + undecided_blocks b
  of_sons a b c h =
      le_trans
      (grid_mono u.axes (blocks_along u l) _ _ (λ q. sons_most _ _ _ (h (grid_block u l q))))
      (le_of_eq (grid_add u.axes (blocks_along u l) _ _))

  -- a surface that is no ball is active over as many at most as the blocks of the level are more than the inner ones, times what it counts
  by_surface : (s : Surface) → count_ball s ≡ 0 →
      grid u.axes (blocks_along u l) (λ q. count_undecided (surface_mark surfaces s (grid_block u l q))) + count_halfspace s * inner_blocks_at u l
      ≤ count_halfspace s * blocks_at u l
  unfolding surface_mark
  by_surface (halfspace i) z = omega (arith, active_blocks u accept.few_axes l (row_at surfaces.rows i))
  by_surface (ball i) z = absurd (omega arith)

  -- and so is a tree without balls undecided, times what its surfaces count
  by_sides : (p : Plain) → count_sides count_ball p ≡ 0 →
      undecided_blocks p + count_sides count_halfspace p * inner_blocks_at u l ≤ count_sides count_halfspace p * blocks_at u l
  unfolding plain_mark count_sides
  by_sides (colour c) z = omega (arith, grid_const u.axes (blocks_along u l) 0)
  by_sides (side turned s) z =
      omega (
        arith,
        grid_mono u.axes (blocks_along u l) _ _ (λ q. side_most surfaces turned s (grid_block u l q)),
        by_surface s z,
      )
  by_sides (union_of a b) z =
      omega (
        arith,
        of_sons a b (union_of a b) (λ q. union_undecided (plain_mark surfaces a q) (plain_mark surfaces b q)),
        by_sides a (omega arith),
        by_sides b (omega arith),
      )
  by_sides (intersection_of a b) z =
      omega (
        arith,
        of_sons a b (intersection_of a b) (λ q. intersection_undecided (plain_mark surfaces a q) (plain_mark surfaces b q)),
        by_sides a (omega arith),
        by_sides b (omega arith),
      )

  -- there are no more of them than blocks
  all_most : (p : Plain) → undecided_blocks p ≤ blocks_at u l
  unfolding blocks_at
  all_most p =
      omega (
        arith,
        grid_mono u.axes (blocks_along u l) _ (λ q. 1) (λ q. one_most (plain_mark surfaces p (grid_block u l q))),
        grid_const u.axes (blocks_along u l) 1,
      )

  -- rules 4.7 and 4.14: what a level counts, the less of the two or, with a ball, all
  level_counts : (p : Plain) → undecided_blocks p ≤ level_count u (count_sides count_halfspace p) (count_sides count_ball p) l
  unfolding level_count
  level_counts p = by (eqb (count_sides count_ball p) 0) refl
    where
      n : ℕ
      n = count_sides count_halfspace p

      by : (t : Bool) → eqb (count_sides count_ball p) 0 ≡ t →
          undecided_blocks p ≤ cond t (min (blocks_at u l) (n * (blocks_at u l - inner_blocks_at u l))) (blocks_at u l)
      by true e = le-min (all_most p) (less_taken n (blocks_at u l) (inner_blocks_at u l) (inner_fewer u l) (by_sides p (eqb-true _ _ e)))
      by false e = all_most p

-- ---- the demand
module _ (u : Universe) (e : universe_refusal u ≡ 0) (surfaces : Surfaces) (t : Tree) where
  pub examined_room : blocks_examined u surfaces t ≤ room u (leaves t) (ball_leaves t)
  unfolding room
  examined_room =
      omega (
        arith,
        examined_most surfaces t (levels u) (whole_block u),
        sum_mono (levels u) (λ l. below (λ b. count_undecided (tree_mark surfaces t b)) l (whole_block u)) (level_count u (leaves t) (ball_leaves t))
            (λ l k. rw (
              level_grid u accept.some_axes (λ b. count_undecided (tree_mark surfaces t b)) l (omega arith),
              ← (sides_plain count_halfspace t),
              ← (sides_plain count_ball t),
            )
            (level_counts u accept surfaces l (plain t))),
      )
    where
      accept : Accepted u
      accept = accepted u e

  raw_counts : length (symbols (raw u surfaces t)) ≡ blocks_examined u surfaces t
  raw_counts = raw_length surfaces t (levels u) (whole_block u)

  pub raw_room : length (symbols (raw u surfaces t)) ≤ room u (leaves t) (ball_leaves t)
  raw_room = rw raw_counts examined_room

  pub merged_room : length (symbols (merged (raw u surfaces t))) ≤ room u (leaves t) (ball_leaves t)
  merged_room = omega (arith, raw_room, length_symbols (raw u surfaces t), length_symbols (merged (raw u surfaces t)), merged_size (raw u surfaces t))

  pub room_suffices : RoomSuffices u surfaces t
  room_suffices = record { raw_counts = raw_counts; raw_fits = raw_room; merged_fits = merged_room }
