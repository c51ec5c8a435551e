-- The whole list filled into the row: what is filled in and what the trees still to come have is what the whole list has. No place overflows: each tree takes
-- no more than its share of the most that a list can have.
use mathlib.Core.Path.{◌≡◌, refl, sym, ap, ◌∙◌}
use mathlib.Core.List.{List, ◌++◌}
use Prim.Native.Nat.{ℕ, ◌+◌, ◌-◌, ◌*◌, ◌^◌, ◌≤◌, ◌<◌}
use native.Mathlib.Omega.{arith}
use lib.ListN.{length, get_or, drop}
use lib.Pow.{pow_mono}
use Rattle.lemmas.proofs.Grid.{listed_cong, listed_own}
use Rattle.universe.specs.Questions.{levels_answer, bits_answer, axes_left}
use Rattle.universe.specs.Universe.{levels, most_levels, frame_axis, block_side}
use Rattle.universe.proofs.Questions.{levels_told, bits_are}
use Rattle.universe.proofs.Universes.{accepted, levels_few, side_first}
use Rattle.bintree.specs.Shape.{Shape, size}
use Rattle.bintree.specs.Reading.{read, read_at}
use Rattle.bintree.specs.Counts.{frames, voxels_from, voxels_at, inside}
use Rattle.bintree.specs.Windows.{frame_bits}
use Rattle.bintree.proofs.Shape.{size_positive}
use Rattle.bintree.proofs.Reading.{stands, depth_stands}
use Rattle.bintree.proofs.Frames.{bits_first}
use Rattle.bintree.proofs.Windows.{inside_at}
use Rattle.report.specs.declared.window.Window.{Window}
use Rattle.report.specs.Lists.{most_expressions, list_of, list_refusal, shapes_of, sum_over}
use Rattle.report.specs.Reports.{frame_voxels, frame_counts}
use Rattle.report.specs.Filling.{most_total, length_of, Cleared, Fillable, voxels_over, voxels_of, Filled, Listed}
use Rattle.report.proofs.Lists.{Follow, Onward, onward, no_more, whole_list, follow_fit}
use Rattle.report.proofs.Sums.{over_colours}
use Rattle.report.proofs.Rows.{in_universe}
use Rattle.report.proofs.Filling.{voxels_most}

-- the invariant of `fill_list`
pub record Going (w : Window) (axes s before : List ℕ) (left bits p : ℕ) (row : List ℕ) : Type 0 where
  pub table : axes ≡ axes_left w.universe
  pub all : left ≡ levels w.universe
  pub wide : bits ≡ frame_bits w.universe (levels w.universe)
  pub list : list_refusal w.universe s ≡ 0
  pub fits : length_of w ≤ length before
  pub more : ℕ
  pub rest : List Shape
  pub follows : Follow w.universe s more p rest
  pub long : length row ≡ length before
  pub counts :
      (c : ℕ) → c < length_of w →
      get_or row c 0 + voxels_over w.universe rest (w.first + c) ≡ voxels_over w.universe (shapes_of (list_of w.universe s)) (w.first + c)
  pub under : (c : ℕ) → c < length_of w → get_or row c 0 + more * 2 ^ most_levels ≤ most_total
  pub behind : drop (length_of w) row ≡ drop (length_of w) before

module _ (w : Window) (s before : List ℕ) (l : Listed w s before) where
  pub list_axes : 1 ≤ w.universe.axes
  list_axes = (accepted w.universe w.accepts).some_axes

  pub list_first :
      (axes row : List ℕ) (left bits n : ℕ) → axes ≡ axes_left w.universe → left ≡ levels_answer w.universe →
      bits ≡ bits_answer w.universe (w.universe.axes - 1) → n ≡ length_of w → Cleared n before row → Going w axes s row left bits 0 row
  list_first axes row left bits n t c b e x =
      let u = w.universe in
      let ok = w.accepts in
      let z = rw e at x in
      record {
        table = t;
        all = levels_told u refl ok c;
        wide = b ∙ bits_are u refl ok (u.axes - 1) (omega (arith, list_axes)) ∙ sym (bits_first u ok);
        list = l.list;
        fits = omega (arith, l.long, z.long);
        more = most_expressions;
        rest = shapes_of (list_of u s);
        follows = whole_list u s l.list;
        long = refl;
        counts = λ c h. omega (arith, z.front c h);
        under = λ c h. omega (arith, z.front c h);
        behind = refl;
      }

module _ (w : Window) (axes s before : List ℕ) (left bits p : ℕ) (row : List ℕ) (g : Going w axes s before left bits p row) where
  -- THEOREM: where no tree is left the row is the list's
  module _ (n : ℕ) (entry : List ℕ) (e : n ≡ length_of w) (x : Cleared n entry before) where
    pub list_done : length s ≤ p → row ≡ frame_counts w.universe s w.first w.last ++ drop (length_of w) entry
    unfolding frame_counts sum_over
    list_done h =
        let u = w.universe in
        let none_left = no_more g.follows h in
        let fit = follow_fit (whole_list u s g.list) in
        let all : (c : ℕ) → c < length_of w → get_or row c 0 ≡ frame_voxels u (shapes_of (list_of u s)) (w.first + c) =
        λ c k.
        omega (
          arith,
          g.counts c k,
          ap (λ list. voxels_over u list (w.first + c)) none_left,
          over_colours u w.accepts fit (w.first + c),
        ) in
        let behind : drop (length_of w) row ≡ drop (length_of w) entry = g.behind ∙ (rw e at x).behind in
        sym (listed_own (length_of w) (λ c. get_or row c 0) row 0 (λ c. refl) (omega (arith, g.fits, g.long)))
        ∙ rw (← behind) (ap (λ front. front ++ drop (length_of w) row) (listed_cong (length_of w) _ _ all))

  module _ (h : p < length s) where
    here : Onward w.universe s g.more p g.rest
    here = onward g.follows h

    some_more : 2 ^ most_levels + here.more * 2 ^ most_levels ≡ g.more * 2 ^ most_levels
    some_more = omega (arith, ap (λ (x : ℕ). x * 2 ^ most_levels) here.some)

    few_voxels : 2 ^ levels w.universe ≤ 2 ^ most_levels
    few_voxels = pow_mono (levels_few w.universe (accepted w.universe w.accepts))

    pub list_tree : Fillable w axes s row p left bits 0
    unfolding block_side
    list_tree =
        let u = w.universe in
        record {
          table = g.table;
          few = omega (arith, g.all);
          wide = rw g.all g.wide;
          within = rw (g.wide, bits_first u w.accepts) (omega arith);
          begins = (0, omega arith);
          shape = here.shape;
          reads = ap (λ (n : ℕ). read_at s n p) g.all ∙ here.reads;
          takes =
              record {
                long = omega (arith, g.fits, g.long);
                under = λ c k. rw g.all (omega (arith, g.under c k, some_more, few_voxels));
              };
        }

    -- all of the tree's voxels of a frame
    tree_voxels : (c : ℕ) → c < length_of w → voxels_of w left 0 here.shape c ≡ voxels_at w.universe here.shape (w.first + c)
    tree_voxels c k =
        let u = w.universe in
        let i = in_universe w in
        let whole : levels u - left ≡ 0 = omega (arith, g.all) in
        ap (λ (l : ℕ). inside 0 (frames u l) (voxels_from u l here.shape) (w.first + c)) whole
        ∙ inside_at 0 (frames u 0) (voxels_from u 0 here.shape) (w.first + c) (omega arith)
        (omega (arith, side_first u (frame_axis u), i.order, i.inside))

    module _ (end : ℕ) (after : List ℕ) (x : Filled w s p left 0 end row after) where
      reads_here : read_at s left p ≡ read here.shape
      reads_here = ap (λ (n : ℕ). read_at s n p) g.all ∙ here.reads

      end_is : end ≡ p + size here.shape
      end_is = x.ends here.shape reads_here

      pub list_less : length s - end < length s - p
      list_less = omega (arith, end_is, size_positive here.shape)

      pub list_next : Going w axes s before left bits end after
      unfolding sum_over
      list_next =
          let u = w.universe in
          let y = x.adds here.shape reads_here in
          let ok = w.accepts in
          record {
            table = g.table;
            all = g.all;
            wide = g.wide;
            list = g.list;
            fits = g.fits;
            more = here.more;
            rest = here.rest;
            follows = rw end_is here.behind;
            long = y.long ∙ g.long;
            counts = λ c k. omega (arith, y.front c k, tree_voxels c k, g.counts c k, ap (λ list. voxels_over u list (w.first + c)) here.are);
            under = λ c k.
                omega (
                  arith,
                  y.front c k,
                  voxels_most w left 0 here.shape c ok (omega (arith, g.all)) (depth_stands (stands s left p here.shape reads_here)),
                  ap (λ (n : ℕ). 2 ^ n) g.all,
                  few_voxels,
                  some_more,
                  g.under c k,
                );
            behind = y.behind ∙ g.behind;
          }
