-- Several trees intersected: where they are undecided over a block, what is left of them is examined as they are in every part of the block, and the nodes
-- looked at are as many by what is carried as by the full trees; at most the examined blocks times the nodes of the full trees.
use Prim.Native.Nat.{ℕ, zero, suc, ◌+◌, ◌*◌, ◌^◌, ◌≤◌, ◌<◌}
use native.Mathlib.Omega.{arith}
use native.Mathlib.Nat.{two-pow-succ}
use mathlib.Core.Path.{◌≡◌, refl, sym, ap, ap₂, ◌∙◌}
use mathlib.Core.List.{List, [], ◌∷◌}
use Rattle.universe.specs.declared.Universe.{Universe}
use Rattle.universe.specs.declared.Block.{Block}
use Rattle.universe.specs.Universe.{levels}
use Rattle.universe.specs.Block.{low, high}
use Rattle.universe.specs.Voxel.{Within}
use Rattle.universe.proofs.Universes.{side_positive}
use Rattle.bintree.specs.declared.Colour.{Colour}
use Rattle.bintree.specs.declared.Colour.TheVariants.{White, Black}
use Rattle.bintree.specs.Shape.{leaf, halved, size}
use Rattle.csg.specs.Halfspace.{Mark, decided, undecided}
use Rattle.csg.specs.Surfaces.{Surfaces}
use Rattle.csg.specs.Tree.{Tree, Plain, plain}
use Rattle.csg.specs.Marks.{intersection_mark, intersection_colour, plain_mark, plain_colour, tree_mark, tree_colour}
use Rattle.csg.specs.Raw.{examine, examined, both}
use Rattle.csg.proofs.Nested.{Nested, low_nested, high_nested}
use Rattle.csg.proofs.Marks.{tree_nested}
use Rattle.csg.proofs.Raw.{examine_decided, examine_undecided}
use Rattle.convert.specs.Blocks.{judged}
use Rattle.convert.proofs.Judging.{written_decided}
use Rattle.pruned.specs.Left.{Left, settled, still, as_mark, left, nodes, all_mark, all_colour, kept, all_left, all_nodes}
use Rattle.pruned.specs.Looked.{examine_all, looked_at, looked_from}
use Rattle.pruned.proofs.Left.{mark_is, part_mark, part_still, centre_left, colour_of, nodes_of, left_nodes_lem}

-- a mark that is not WHITE: no tree of the run is WHITE
abbrev pub NotWhite : Mark → Type 0
NotWhite m = m ≡ decided White → ⊥

pub open_not_white : {m : Mark} → m ≡ undecided → NotWhite m
open_not_white e f = let z : ◌≡◌ {A = ℕ} 0 1 = cc in omega arith

white_second : (m : Mark) → intersection_mark m (decided White) ≡ decided White
unfolding intersection_mark
white_second (decided White) = refl
white_second (decided Black) = refl
white_second undecided = refl

rest_not_white : (m n : Mark) → NotWhite (intersection_mark m n) → NotWhite n
rest_not_white m n h e = h (rw e (white_second m))

-- a son that is settled is BLACK
settled_black : (c : Colour) (n : Mark) → NotWhite (intersection_mark (decided c) n) → c ≡ Black
unfolding intersection_mark
settled_black Black n h = refl
settled_black White n h = absurd (h refl)

module _ (surfaces : Surfaces) (b : Block) where
  mark_settled : (p : Plain) (c : Colour) → left surfaces p b ≡ settled c → plain_mark surfaces p b ≡ decided c
  mark_settled p c e = mark_is surfaces b p ∙ ap as_mark e

  -- ---- in a part of the block
  module _ (part : Block) (nested : Nested part b) where
    pub part_all_mark : (ps : List Plain) → NotWhite (all_mark surfaces ps b) → all_mark surfaces (all_left surfaces ps b) part ≡ all_mark surfaces ps part
    unfolding all_mark all_left intersection_mark
    part_all_mark [] h = refl
    part_all_mark (p ∷ ps) h = by (part_all_mark ps (rest_not_white (plain_mark surfaces p b) (all_mark surfaces ps b) h)) (left surfaces p b) refl
      where
        by : all_mark surfaces (all_left surfaces ps b) part ≡ all_mark surfaces ps part → (x : Left) → left surfaces p b ≡ x →
            all_mark surfaces (kept x (all_left surfaces ps b)) part ≡ intersection_mark (plain_mark surfaces p part) (all_mark surfaces ps part)
        by rest (settled c) e =
            let m : plain_mark surfaces p b ≡ decided c = mark_settled p c e in
            let z : c ≡ Black = settled_black c (all_mark surfaces ps b) (rw m at h) in
            let k : plain_mark surfaces p part ≡ decided Black = (tree_nested surfaces p b part nested).same Black (m ∙ ap decided z) in
            rw k rest
        by rest (still q) e = ap₂ intersection_mark (part_mark surfaces b part nested p q e) rest

    pub part_all_left : (ps : List Plain) → NotWhite (all_mark surfaces ps b) → all_left surfaces (all_left surfaces ps b) part ≡ all_left surfaces ps part
    unfolding all_mark all_left
    part_all_left [] h = refl
    part_all_left (p ∷ ps) h = by (part_all_left ps (rest_not_white (plain_mark surfaces p b) (all_mark surfaces ps b) h)) (left surfaces p b) refl
      where
        settled_stays : (c : Colour) → plain_mark surfaces p part ≡ decided c → left surfaces p part ≡ settled c
        settled_stays c f = go (left surfaces p part) (sym (mark_is surfaces part p) ∙ f)
          where
            go : (x : Left) → as_mark x ≡ decided c → x ≡ settled c
            go (settled d) g = cc
            go (still q) g = let z : ◌≡◌ {A = ℕ} 0 1 = cc in absurd (omega arith)

        by : all_left surfaces (all_left surfaces ps b) part ≡ all_left surfaces ps part → (x : Left) → left surfaces p b ≡ x →
            all_left surfaces (kept x (all_left surfaces ps b)) part ≡ kept (left surfaces p part) (all_left surfaces ps part)
        by rest (settled c) e =
            let k = (tree_nested surfaces p b part nested).same c (mark_settled p c e) in
            rw (settled_stays c k) rest
        by rest (still q) e = ap₂ kept (part_still surfaces b part nested p q e) rest

  -- ---- at a centre in the block
  module _ (v : List ℕ) (w : Within b v) where
    pub part_all_colour : (ps : List Plain) → NotWhite (all_mark surfaces ps b) →
        all_colour surfaces b.universe (all_left surfaces ps b) v ≡ all_colour surfaces b.universe ps v
    unfolding all_mark all_left all_colour intersection_colour
    part_all_colour [] h = refl
    part_all_colour (p ∷ ps) h = by (part_all_colour ps (rest_not_white (plain_mark surfaces p b) (all_mark surfaces ps b) h)) (left surfaces p b) refl
      where
        own : colour_of surfaces b.universe v (left surfaces p b) ≡ plain_colour surfaces b.universe p v
        own = centre_left surfaces b v w p

        by : all_colour surfaces b.universe (all_left surfaces ps b) v ≡ all_colour surfaces b.universe ps v → (x : Left) → left surfaces p b ≡ x →
            all_colour surfaces b.universe (kept x (all_left surfaces ps b)) v
            ≡ intersection_colour (plain_colour surfaces b.universe p v) (all_colour surfaces b.universe ps v)
        by rest (settled c) e =
            let m : plain_mark surfaces p b ≡ decided c = mark_settled p c e in
            let z : c ≡ Black = settled_black c (all_mark surfaces ps b) (rw m at h) in
            let k : plain_colour surfaces b.universe p v ≡ Black = sym own ∙ ap (colour_of surfaces b.universe v) e ∙ z in
            rw k rest
        by rest (still q) e =
            ap₂ intersection_colour (ap (colour_of surfaces b.universe v) (sym e) ∙ own) rest

  pub all_nodes_fewer : (ps : List Plain) → all_nodes (all_left surfaces ps b) ≤ all_nodes ps
  unfolding all_left all_nodes
  all_nodes_fewer [] = omega arith
  all_nodes_fewer (p ∷ ps) = by (all_nodes_fewer ps) (left surfaces p b) (left_nodes_lem _ p)
    where
      by : all_nodes (all_left surfaces ps b) ≤ all_nodes ps → (x : Left) → nodes_of x ≤ nodes p → all_nodes (kept x (all_left surfaces ps b)) ≤ nodes p + all_nodes ps
      by rest (settled c) h = omega (arith, rest)
      by rest (still q) h = omega (arith, rest)

-- ---- a part of a part
nested_in : {a b c : Block} → Nested a b → Nested b c → Nested a c
nested_in {a} {b} {c} x y =
    record {
      axes = x.axes ∙ y.axes;
      above = λ i l. let k = rw (sym y.axes) at l in omega (arith, x.above i k, y.above i l);
      below = λ i l. let k = rw (sym y.axes) at l in omega (arith, x.below i k, y.below i l);
    }

-- a part's own low places lie in the block
part_within : {part b : Block} → Nested part b → part.universe ≡ b.universe → Within b part.low
part_within {part} {b} nested same =
    record {
      above = λ i l. nested.above i l;
      below = λ i l. omega (arith, nested.below i l, side_positive part.universe part.level i);
    }

-- ---- what is examined, by the mark of all
module _ (surfaces : Surfaces) (ps : List Plain) where
  pub all_decided : (n : ℕ) (b : Block) (c : Colour) → all_mark surfaces ps b ≡ decided c → examine_all surfaces ps (suc n) b ≡ leaf c
  unfolding examine_all
  all_decided n b c e = rw (examine_all, e)

  pub all_undecided : (n : ℕ) (b : Block) → all_mark surfaces ps b ≡ undecided →
      examine_all surfaces ps (suc n) b ≡ halved (examine_all surfaces ps n (low b)) (examine_all surfaces ps n (high b))
  unfolding examine_all
  all_undecided n b e = rw (examine_all, e)

  pub looked_decided : (n : ℕ) (b : Block) (c : Colour) → all_mark surfaces ps b ≡ decided c → looked_from surfaces ps (suc n) b ≡ all_nodes ps
  unfolding looked_from
  looked_decided n b c e = rw (looked_from, e)

  pub looked_undecided : (n : ℕ) (b : Block) → all_mark surfaces ps b ≡ undecided →
      looked_from surfaces ps (suc n) b
      ≡ all_nodes ps + (looked_from surfaces (all_left surfaces ps b) n (low b) + looked_from surfaces (all_left surfaces ps b) n (high b))
  unfolding looked_from
  looked_undecided n b e = rw (looked_from, e)

  pub looked_least : (n : ℕ) (b : Block) → all_nodes ps ≤ looked_from surfaces ps n b
  unfolding looked_from
  looked_least zero b = omega arith
  looked_least (suc n) b = by (all_mark surfaces ps b) refl
    where
      by : (x : Mark) → all_mark surfaces ps b ≡ x → all_nodes ps ≤ looked_from surfaces ps (suc n) b
      by (decided c) e = omega (arith, looked_decided n b c e)
      by undecided e = omega (arith, looked_undecided n b e)

  at_decided : (n : ℕ) (b : Block) (k : ℕ) (c : Colour) → all_mark surfaces ps b ≡ decided c → looked_at surfaces ps (suc n) b k ≡ k
  unfolding looked_at
  at_decided n b k c e = rw (looked_at, e)

  at_undecided : (n : ℕ) (b : Block) (k : ℕ) → all_mark surfaces ps b ≡ undecided →
      looked_at surfaces ps (suc n) b k
      ≡ k + (looked_at surfaces ps n (low b) (all_nodes (all_left surfaces ps b)) + looked_at surfaces ps n (high b) (all_nodes (all_left surfaces ps b)))
  unfolding looked_at
  at_undecided n b k e = rw (looked_at, e)

-- ---- in a part of a block over which the trees are undecided, what is left is examined as they are
module _ (surfaces : Surfaces) (ps : List Plain) (b : Block) (unsettled : all_mark surfaces ps b ≡ undecided) where
  abbrev qs : List Plain
  qs = all_left surfaces ps b

  not_white : NotWhite (all_mark surfaces ps b)
  not_white = open_not_white unsettled

  pub examine_left : (n : ℕ) (part : Block) → part.universe ≡ b.universe → Nested part b → part.level + n ≤ levels part.universe →
      examine_all surfaces qs n part ≡ examine_all surfaces ps n part
  unfolding examine_all
  examine_left zero part same nested l =
      let w : Within b part.low = part_within nested same in
      ap leaf (rw same (part_all_colour surfaces b part.low w ps not_white))
  examine_left (suc n) part same nested l =
      let inner : part.level < levels part.universe = omega arith in
      by
      (examine_left n (low part) same (nested_in (low_nested part inner) nested) (omega arith))
      (examine_left n (high part) same (nested_in (high_nested part inner) nested) (omega arith))
      (part_all_mark surfaces b part nested ps not_white)
      (all_mark surfaces ps part)
      refl
    where
      by : examine_all surfaces qs n (low part) ≡ examine_all surfaces ps n (low part)
          → examine_all surfaces qs n (high part) ≡ examine_all surfaces ps n (high part) →
          all_mark surfaces qs part ≡ all_mark surfaces ps part → (x : Mark) → all_mark surfaces ps part ≡ x →
          examine_all surfaces qs (suc n) part ≡ examine_all surfaces ps (suc n) part
      by lows highs m (decided c) e = all_decided surfaces qs n part c (m ∙ e) ∙ sym (all_decided surfaces ps n part c e)
      by lows highs m undecided e = all_undecided surfaces qs n part (m ∙ e) ∙ ap₂ halved lows highs ∙ sym (all_undecided surfaces ps n part e)

-- ---- as many nodes are looked at by what is carried as by the full trees
module _ (surfaces : Surfaces) (ps : List Plain) where
  looked_left : (n : ℕ) (b part : Block) → all_mark surfaces ps b ≡ undecided → Nested part b → part.level + n ≤ levels part.universe →
      looked_from surfaces (all_left surfaces ps b) n part ≡ looked_at surfaces ps n part (all_nodes (all_left surfaces ps b))
  unfolding looked_from looked_at
  looked_left zero b part unsettled nested l = refl
  looked_left (suc n) b part unsettled nested l =
      let inner : part.level < levels part.universe = omega arith in
      by
      (λ e. looked_left n part (low part) e (low_nested part inner) (omega arith))
      (λ e. looked_left n part (high part) e (high_nested part inner) (omega arith))
      (part_all_mark surfaces b part nested ps (open_not_white unsettled))
      (part_all_left surfaces b part nested ps (open_not_white unsettled))
      (all_mark surfaces ps part)
      refl
    where
      qs : List Plain
      qs = all_left surfaces ps b

      rs : List Plain
      rs = all_left surfaces ps part

      by : (all_mark surfaces ps part ≡ undecided → looked_from surfaces rs n (low part) ≡ looked_at surfaces ps n (low part) (all_nodes rs)) →
          (all_mark surfaces ps part ≡ undecided → looked_from surfaces rs n (high part) ≡ looked_at surfaces ps n (high part) (all_nodes rs)) →
          all_mark surfaces qs part ≡ all_mark surfaces ps part → all_left surfaces qs part ≡ rs → (x : Mark) → all_mark surfaces ps part ≡ x →
          looked_from surfaces qs (suc n) part ≡ looked_at surfaces ps (suc n) part (all_nodes qs)
      by lows highs m k (decided c) e = looked_decided surfaces qs n part c (m ∙ e) ∙ sym (at_decided surfaces ps n part (all_nodes qs) c e)
      by lows highs m k undecided e =
          looked_undecided surfaces qs n part (m ∙ e)
          ∙ rw k (ap (λ (x : ℕ). all_nodes qs + x) (ap₂ ◌+◌ (lows e) (highs e)))
          ∙ sym (at_undecided surfaces ps n part (all_nodes qs) e)

  pub looked_is : (n : ℕ) (b : Block) → b.level + n ≤ levels b.universe → looked_from surfaces ps n b ≡ looked_at surfaces ps n b (all_nodes ps)
  unfolding looked_from looked_at
  looked_is zero b l = refl
  looked_is (suc n) b l = by (all_mark surfaces ps b) refl
    where
      inner : b.level < levels b.universe
      inner = omega arith

      by : (x : Mark) → all_mark surfaces ps b ≡ x → looked_from surfaces ps (suc n) b ≡ looked_at surfaces ps (suc n) b (all_nodes ps)
      by (decided c) e = looked_decided surfaces ps n b c e ∙ sym (at_decided surfaces ps n b (all_nodes ps) c e)
      by undecided e =
          looked_undecided surfaces ps n b e
          ∙ ap (λ (x : ℕ). all_nodes ps + x)
          (ap₂ ◌+◌ (looked_left n b (low b) e (low_nested b inner) (omega arith)) (looked_left n b (high b) e (high_nested b inner) (omega arith)))
          ∙ sym (at_undecided surfaces ps n b (all_nodes ps) e)

-- ---- the trees of a run stand for one tree: theirs, or both intersected
pub record StandsFor (surfaces : Surfaces) (ps : List Plain) (t : Tree) : Type 0 where
  pub marks : (b : Block) → all_mark surfaces ps b ≡ tree_mark surfaces t b
  pub colours : (u : Universe) (v : List ℕ) → all_colour surfaces u ps v ≡ tree_colour surfaces u t v

with_black : (m : Mark) → intersection_mark m (decided Black) ≡ m
unfolding intersection_mark
with_black (decided Black) = refl
with_black (decided White) = refl
with_black undecided = refl

colour_black : (c : Colour) → intersection_colour c Black ≡ c
unfolding intersection_colour
colour_black Black = refl
colour_black White = refl

module _ (surfaces : Surfaces) (t : Tree) where
  pub one_stands : StandsFor surfaces (plain t ∷ []) t
  unfolding all_mark all_colour
  one_stands =
      record { marks = λ b. with_black (plain_mark surfaces (plain t) b); colours = λ u v. colour_black (plain_colour surfaces u (plain t) v) }

  pub two_stand : (s : Tree) → StandsFor surfaces (plain t ∷ plain s ∷ []) (both t s)
  unfolding all_mark all_colour plain plain_mark plain_colour
  two_stand s =
      record {
        marks = λ b. ap (intersection_mark (plain_mark surfaces (plain t) b)) (with_black (plain_mark surfaces (plain s) b));
        colours = λ u v. ap (intersection_colour (plain_colour surfaces u (plain t) v)) (colour_black (plain_colour surfaces u (plain s) v));
      }

module _ {surfaces : Surfaces} {ps : List Plain} {t : Tree} (s : StandsFor surfaces ps t) where
  -- they are examined as it is
  pub examine_all_lem : (n : ℕ) (b : Block) → examine_all surfaces ps n b ≡ examine surfaces t n b
  unfolding examine_all judged
  examine_all_lem zero b =
      ap leaf (s.colours b.universe b.low)
      ∙ sym (written_decided surfaces t 0 b (tree_colour surfaces b.universe t b.low) refl)
  examine_all_lem (suc n) b = by (examine_all_lem n (low b)) (examine_all_lem n (high b)) (tree_mark surfaces t b) refl
    where
      by : examine_all surfaces ps n (low b) ≡ examine surfaces t n (low b) → examine_all surfaces ps n (high b) ≡ examine surfaces t n (high b) →
          (x : Mark) → tree_mark surfaces t b ≡ x → examine_all surfaces ps (suc n) b ≡ examine surfaces t (suc n) b
      by lows highs (decided c) e = all_decided surfaces ps n b c (s.marks b ∙ e) ∙ sym (examine_decided surfaces t (suc n) b c e)
      by lows highs undecided e =
          all_undecided surfaces ps n b (s.marks b ∙ e) ∙ ap₂ halved lows highs ∙ sym (examine_undecided surfaces t n b e)

  -- in no block more nodes are looked at than the full trees have
  pub looked_most : (n : ℕ) (b : Block) (k : ℕ) → k ≤ all_nodes ps → looked_at surfaces ps n b k ≤ examined surfaces t n b * all_nodes ps
  unfolding looked_at examined
  looked_most zero b k h = omega arith
  looked_most (suc n) b k h =
      let fewer = all_nodes_fewer surfaces b ps in
      let m = all_nodes (all_left surfaces ps b) in
      by (looked_most n (low b) m fewer) (looked_most n (high b) m fewer) (tree_mark surfaces t b) refl
    where
      w : ℕ
      w = all_nodes ps

      m : ℕ
      m = all_nodes (all_left surfaces ps b)

      by : looked_at surfaces ps n (low b) m ≤ examined surfaces t n (low b) * w → looked_at surfaces ps n (high b) m ≤ examined surfaces t n (high b) * w →
          (x : Mark) → tree_mark surfaces t b ≡ x → looked_at surfaces ps (suc n) b k ≤ examined surfaces t (suc n) b * w
      by lows highs (decided c) e = rw (looked_at, s.marks b ∙ e, examined, e) (omega arith)
      by lows highs undecided e = rw (looked_at, s.marks b ∙ e, examined, e) (omega (arith, lows, highs, h))

-- in every block that is examined no more than the full trees have, so that the nodes looked at are no more than the symbols times those
module _ (surfaces : Surfaces) (ps : List Plain) where
  pub looked_few : (n : ℕ) (b : Block) (k : ℕ) → k ≤ all_nodes ps → looked_at surfaces ps n b k ≤ size (examine_all surfaces ps n b) * all_nodes ps
  unfolding looked_at examine_all size
  looked_few zero b k h = omega arith
  looked_few (suc n) b k h =
      let fewer = all_nodes_fewer surfaces b ps in
      let m = all_nodes (all_left surfaces ps b) in
      by (looked_few n (low b) m fewer) (looked_few n (high b) m fewer) (all_mark surfaces ps b) refl
    where
      w : ℕ
      w = all_nodes ps

      m : ℕ
      m = all_nodes (all_left surfaces ps b)

      by : looked_at surfaces ps n (low b) m ≤ size (examine_all surfaces ps n (low b)) * w →
          looked_at surfaces ps n (high b) m ≤ size (examine_all surfaces ps n (high b)) * w →
          (x : Mark) → all_mark surfaces ps b ≡ x → looked_at surfaces ps (suc n) b k ≤ size (examine_all surfaces ps (suc n) b) * w
      by lows highs (decided c) e = rw (looked_at, examine_all, e) (omega arith)
      by lows highs undecided e = rw (looked_at, examine_all, e) (omega (arith, lows, highs, h))

  -- over a block n levels above L there are fewer symbols than that
  pub size_few : (n : ℕ) (b : Block) → size (examine_all surfaces ps n b) < 2 ^ suc n
  unfolding examine_all size
  size_few zero b = omega arith
  size_few (suc n) b = by (size_few n (low b)) (size_few n (high b)) (all_mark surfaces ps b) refl
    where
      by : size (examine_all surfaces ps n (low b)) < 2 ^ suc n → size (examine_all surfaces ps n (high b)) < 2 ^ suc n → (x : Mark) → all_mark surfaces ps b ≡ x →
          size (examine_all surfaces ps (suc n) b) < 2 ^ suc (suc n)
      by lows highs (decided c) e = rw (examine_all, e) (omega (arith, lows, two-pow-succ (suc n)))
      by lows highs undecided e = rw (examine_all, e) (omega (arith, lows, highs, two-pow-succ (suc n)))
