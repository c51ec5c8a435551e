-- A part of a block. There the least value only grows and the greatest only falls, so that a decided mark stays: `mark_nested`. The halves of a
-- block are parts of it, since a halving keeps the ends along every axis but one, and there keeps what it halves.
use Prim.Native.Nat.{ℕ, suc, ◌+◌, ◌*◌, ◌≤◌, ◌<◌}
use mathlib.Core.Path.{◌≡◌, refl, sym, subst}
use mathlib.Core.List.{List}
use native.Mathlib.Omega.{arith}
use native.Mathlib.Decide.{ℕ_discrete, dec_le}
use lib.IntN.{pos}
use lib.Signed.{◌≤ℤ◌, ◌<ℤ◌, <ℤ-≤ℤ_trans}
use lib.ListN.{length, get_or, set}
use lib.Seq.{get_or-set_same, get_or-set_other, set_out}
use Rattle.lemmas.proofs.Whole.{up, dn, Is, is_le, is_lt, lt_is, is_nat}
use Rattle.lemmas.proofs.Totals.{le_then_le, weighted_le}
use Rattle.universe.specs.declared.Block.{Block}
use Rattle.universe.specs.Universe.{levels, block_side}
use Rattle.universe.specs.Block.{low_along, axis_of, low, high}
use Rattle.universe.proofs.Universes.{some_axes, side_positive, side_halved, side_kept}
use Rattle.bintree.specs.declared.Colour.{Colour}
use Rattle.bintree.specs.declared.Colour.TheVariants.{White, Black}
use Rattle.csg.specs.Halfspace.{Halfspace, decided, least, greatest, mark_over}
use Rattle.csg.proofs.Halfspace.{axes_of, end_along, added, taken, rise, fall, least_is, greatest_is, slope, by_slope, parted}
use Rattle.csg.proofs.Halfspace.{mark_black, mark_white, black_means, white_means}

-- the block c is a part of the block b
pub record Nested (c b : Block) : Type 0 where
  pub axes : axes_of c ≡ axes_of b
  pub above : (i : ℕ) → i < axes_of b → low_along b i ≤ low_along c i
  pub below : (i : ℕ) → i < axes_of b → end_along c i ≤ end_along b i

module _ (h : Halfspace) (c b : Block) (nested : Nested c b) where
  least_is_in : Is (least h c) (up h.offset + rise h (axes_of b) (low_along c)) (dn h.offset + fall h (axes_of b) (end_along c))
  least_is_in =
      subst (λ (d : ℕ). Is (least h c) (up h.offset + rise h d (low_along c)) (dn h.offset + fall h d (end_along c))) nested.axes
      (least_is h c)

  greatest_is_in : Is (greatest h c) (up h.offset + rise h (axes_of b) (end_along c)) (dn h.offset + fall h (axes_of b) (low_along c))
  greatest_is_in =
      subst (λ (d : ℕ). Is (greatest h c) (up h.offset + rise h d (end_along c)) (dn h.offset + fall h d (low_along c))) nested.axes
      (greatest_is h c)

  pub least_grows : least h b ≤ℤ least h c
  unfolding rise fall
  least_grows =
      is_le (least_is h b) least_is_in
      (omega (
        arith,
        weighted_le (axes_of b) (added h) (low_along b) (low_along c) nested.above,
        weighted_le (axes_of b) (taken h) (end_along c) (end_along b) nested.below,
      ))

  pub greatest_falls : greatest h c ≤ℤ greatest h b
  unfolding rise fall
  greatest_falls =
      is_le greatest_is_in (greatest_is h b)
      (omega (
        arith,
        weighted_le (axes_of b) (added h) (end_along c) (end_along b) nested.below,
        weighted_le (axes_of b) (taken h) (low_along b) (low_along c) nested.above,
      ))

  -- outside stays outside: with no slope the value is one everywhere, and with a slope least is below greatest
  outside_stays : greatest h b ≤ℤ pos 0 → least h b <ℤ pos 0 → least h c <ℤ pos 0
  outside_stays m k =
      by_slope h (axes_of b) (least h c <ℤ pos 0)
      (λ level. is_lt least_is_in (is_nat 0)
      (omega (arith, lt_is (least_is h b) (is_nat 0) k, level (low_along b), level (end_along b), level (low_along c), level (end_along c))))
      (λ s. <ℤ-≤ℤ_trans
      (parted h c (λ i l. omega (arith, side_positive c.universe c.level i)) (subst (λ (d : ℕ). 0 < slope h d) (sym nested.axes) s))
      (le_then_le greatest_falls m))

  pub mark_nested : (colour : Colour) → mark_over h b ≡ decided colour → mark_over h c ≡ decided colour
  mark_nested Black e = mark_black h c (le_then_le (black_means h b e) least_grows)
  mark_nested White e =
      let m = white_means h b e in
      mark_white h c (outside_stays m.1 m.0) (le_then_le greatest_falls m.1)

-- ---- the halves of a block are parts of it
-- a place of a list made greater by x, or left where the list has no such place
raised : (s : List ℕ) (a x : ℕ) → (get_or s a 0 ≤ get_or (set s a (get_or s a 0 + x)) a 0) × (get_or (set s a (get_or s a 0 + x)) a 0 ≤ get_or s a 0 + x)
raised s a x = by (dec_le (suc a) (length s))
  where
    by : Dec (a < length s) → (get_or s a 0 ≤ get_or (set s a (get_or s a 0 + x)) a 0) × (get_or (set s a (get_or s a 0 + x)) a 0 ≤ get_or s a 0 + x)
    by (yes l) = rw (get_or-set_same s a (get_or s a 0 + x) 0 l) (omega arith, omega arith)
    by (no l) = rw (set_out s a (get_or s a 0 + x) (omega arith)) (omega arith, omega arith)

module _ (b : Block) (l : b.level < levels b.universe) where
  halved : block_side b.universe b.level (axis_of b) ≡ 2 * block_side b.universe (suc b.level) (axis_of b)
  halved = side_halved b.universe (some_axes b.universe b.level l) b.level l

  pub low_nested : Nested (low b) b
  low_nested = record { axes = refl; above = λ i m. omega arith; below = λ i m. by i (ℕ_discrete (axis_of b) i) }
    where
      by : (i : ℕ) → Dec (axis_of b ≡ i) → end_along (low b) i ≤ end_along b i
      by i (yes e) = subst (λ (j : ℕ). end_along (low b) j ≤ end_along b j) e (omega (arith, halved))
      by i (no n) = omega (arith, side_kept b.universe b.level i n)

  pub high_nested : Nested (high b) b
  high_nested = record { axes = refl; above = λ i m. (by i (ℕ_discrete (axis_of b) i)).0; below = λ i m. (by i (ℕ_discrete (axis_of b) i)).1 }
    where
      half : ℕ
      half = block_side b.universe (suc b.level) (axis_of b)

      by : (i : ℕ) → Dec (axis_of b ≡ i) → (low_along b i ≤ low_along (high b) i) × (end_along (high b) i ≤ end_along b i)
      by i (yes e) =
          subst (λ (j : ℕ). (low_along b j ≤ low_along (high b) j) × (end_along (high b) j ≤ end_along b j)) e
          (let r = raised b.low (axis_of b) half in (r.0, omega (arith, halved, r.1)))
      by i (no n) =
          let same : low_along (high b) i ≡ low_along b i = get_or-set_other b.low (axis_of b) i (low_along b (axis_of b) + half) 0 (λ e. n (sym e)) in
          (omega arith, omega (arith, side_kept b.universe b.level i n))

module _ (h : Halfspace) (b : Block) (l : b.level < levels b.universe) where
  pub least_persistent : (least h b ≤ℤ least h (low b)) × (least h b ≤ℤ least h (high b))
  least_persistent = (least_grows h (low b) b (low_nested b l), least_grows h (high b) b (high_nested b l))

  pub greatest_persistent : (greatest h (low b) ≤ℤ greatest h b) × (greatest h (high b) ≤ℤ greatest h b)
  greatest_persistent = (greatest_falls h (low b) b (low_nested b l), greatest_falls h (high b) b (high_nested b l))

  pub mark_persistent : (c : Colour) → mark_over h b ≡ decided c → (mark_over h (low b) ≡ decided c) × (mark_over h (high b) ≡ decided c)
  mark_persistent c e = (mark_nested h (low b) b (low_nested b l) c e, mark_nested h (high b) b (high_nested b l) c e)
