-- What WHITE over a block excludes: no point of the block is strictly inside. Of a plane by its greatest, of a reversed one by its least, of a ball by what its
-- mark says at every point; a WHITE union has two WHITE sons, a WHITE intersection one.
use Prim.Native.Nat.{ℕ, zero, suc, ◌+◌, ◌*◌, ◌≤◌, ◌<◌}
use mathlib.Core.Path.{◌≡◌, refl, sym, ap, ◌∙◌}
use mathlib.Core.Bool.{Bool, cond}
use mathlib.Core.Logic.{◌⊎◌, inl, inr}
use mathlib.Core.List.{List}
use native.Mathlib.Omega.{arith}
use native.Mathlib.Nat.{mul-le-mul_left}
use lib.IntN.{pos}
use lib.Signed.{◌≤ℤ◌, ◌<ℤ◌, le_z}
use Rattle.lemmas.specs.Sums.{sum}
use Rattle.lemmas.proofs.Whole.{up, dn, Is, is_add, is_scale, is_mul, is_self, is_nat, le_is, lt_is, le_le_z, lt_le_z}
use Rattle.lemmas.proofs.Totals.{total_is, weighted_le}
use Rattle.universe.specs.declared.Universe.{Universe}
use Rattle.universe.specs.declared.Block.{Block}
use Rattle.universe.specs.Block.{low_along}
use Rattle.bintree.specs.declared.Colour.{Colour}
use Rattle.bintree.specs.declared.Colour.TheVariants.{White, Black}
use Rattle.csg.specs.Halfspace.{Halfspace, Mark, decided, undecided, row_at, least, greatest, mark_over}
use Rattle.csg.specs.Ball.{Ball, ball_at, ball_mark, ball_value, HasPoint}
use Rattle.csg.specs.Surfaces.{Surfaces, Surface, halfspace, ball}
use Rattle.csg.specs.Tree.{Plain, colour, side, union_of, intersection_of, as_it_is, reversed}
use Rattle.csg.specs.Marks.{union_mark, intersection_mark, opposite_mark, surface_mark, side_mark, plain_mark}
use Rattle.csg.proofs.Halfspace.{axes_of, end_along, added, taken, rise, fall, least_is, greatest_is, black_means, white_means}
use Rattle.csg.proofs.Balls.{ball_sound_at}
use Rattle.csg.proofs.Marks.{side_mark_lem}
use Rattle.contacts.specs.Points.{plane_value, StrictlyInside, in_black, above_plane, below_plane, in_ball, out_of_ball, in_first, in_second, in_both}

-- ---- a plane's value at a point of a block, by its least and its greatest there
weighted_scaled : (n q : ℕ) (u x : ℕ → ℕ) → sum n (λ i. u i * (q * x i)) ≡ q * sum n (λ i. u i * x i)
unfolding sum
weighted_scaled zero q u x = omega arith
weighted_scaled (suc n) q u x = omega (arith, weighted_scaled n q u x)

pub plane_is : (u : Universe) (h : Halfspace) (q : ℕ) (p : ℕ → ℕ) →
    Is (plane_value u h q p) (q * up h.offset + rise h u.axes p) (q * dn h.offset + fall h u.axes p)
unfolding plane_value rise fall
plane_is u h q p = is_add (is_scale q (is_self h.offset)) (total_is u.axes _ _ _ (λ i m. is_mul (is_self (h.coefficient i)) (p i)))

module _ (h : Halfspace) (b : Block) (q : ℕ) (p : ℕ → ℕ) (w : HasPoint b q p) where
  outside_plane : greatest h b ≤ℤ pos 0 → pos 0 <ℤ plane_value b.universe h q p → ⊥
  unfolding rise fall
  outside_plane m k =
      omega (
        arith,
        mul-le-mul_left q (le_is (greatest_is h b) (is_nat 0) m),
        lt_is (is_nat 0) (plane_is b.universe h q p) k,
        weighted_le (axes_of b) (added h) p (λ i. q * end_along b i) w.below,
        weighted_le (axes_of b) (taken h) (λ i. q * low_along b i) p w.above,
        weighted_scaled (axes_of b) q (added h) (end_along b),
        weighted_scaled (axes_of b) q (taken h) (low_along b),
      )

  inside_plane : pos 0 ≤ℤ least h b → plane_value b.universe h q p <ℤ pos 0 → ⊥
  unfolding rise fall
  inside_plane m k =
      omega (
        arith,
        mul-le-mul_left q (le_is (is_nat 0) (least_is h b) m),
        lt_is (plane_is b.universe h q p) (is_nat 0) k,
        weighted_le (axes_of b) (added h) (λ i. q * low_along b i) p w.above,
        weighted_le (axes_of b) (taken h) p (λ i. q * end_along b i) w.below,
        weighted_scaled (axes_of b) q (added h) (low_along b),
        weighted_scaled (axes_of b) q (taken h) (end_along b),
      )

-- ---- marks that are WHITE
opposite_white : (m : Mark) → opposite_mark m ≡ decided White → m ≡ decided Black
opposite_white (decided Black) e = refl
opposite_white (decided White) e = let z : ◌≡◌ {A = ℕ} 0 1 = cc in absurd (omega arith)
opposite_white undecided e = let z : ◌≡◌ {A = ℕ} 0 1 = cc in absurd (omega arith)

union_white : (m n : Mark) → union_mark m n ≡ decided White → (m ≡ decided White) × (n ≡ decided White)
unfolding union_mark
union_white (decided Black) n e = let z : ◌≡◌ {A = ℕ} 0 1 = cc in absurd (omega arith)
union_white (decided White) n e = (refl, e)
union_white undecided (decided Black) e = let z : ◌≡◌ {A = ℕ} 0 1 = cc in absurd (omega arith)
union_white undecided (decided White) e = let z : ◌≡◌ {A = ℕ} 0 1 = cc in absurd (omega arith)
union_white undecided undecided e = let z : ◌≡◌ {A = ℕ} 0 1 = cc in absurd (omega arith)

intersection_white : (m n : Mark) → intersection_mark m n ≡ decided White → (m ≡ decided White) ⊎ (n ≡ decided White)
unfolding intersection_mark
intersection_white (decided White) n e = inl refl
intersection_white (decided Black) n e = inr e
intersection_white undecided (decided White) e = inr refl
intersection_white undecided (decided Black) e = let z : ◌≡◌ {A = ℕ} 0 1 = cc in absurd (omega arith)
intersection_white undecided undecided e = let z : ◌≡◌ {A = ℕ} 0 1 = cc in absurd (omega arith)

-- ---- THEOREM: no point of a block is strictly inside a tree that is decided WHITE over it
module _ (surfaces : Surfaces) (b : Block) (q : ℕ) (some : 0 < q) (p : ℕ → ℕ) (w : HasPoint b q p) where
  not_in_ball : (i : ℕ) → ball_mark (ball_at surfaces.balls i) b ≡ decided White → pos 0 ≤ℤ ball_value b.universe (ball_at surfaces.balls i) q p → ⊥
  not_in_ball i e k =
      let s = ball_sound_at (ball_at surfaces.balls i) b White e q p some w in
      let t : cond (le_z (pos 0) (ball_value b.universe (ball_at surfaces.balls i) q p)) Black White ≡ Black = rw (le_le_z k) refl in
      let z : ◌≡◌ {A = ℕ} 0 1 = cc in
      omega arith

  not_out_of_ball : (i : ℕ) → ball_mark (ball_at surfaces.balls i) b ≡ decided Black → ball_value b.universe (ball_at surfaces.balls i) q p <ℤ pos 0 → ⊥
  not_out_of_ball i e k =
      let s = ball_sound_at (ball_at surfaces.balls i) b Black e q p some w in
      let t : cond (le_z (pos 0) (ball_value b.universe (ball_at surfaces.balls i) q p)) Black White ≡ White = rw (lt_le_z k) refl in
      let z : ◌≡◌ {A = ℕ} 0 1 = cc in
      omega arith

  pub white_excludes : {t : Plain} → StrictlyInside surfaces b.universe q p t → plain_mark surfaces t b ≡ decided White → ⊥
  unfolding plain_mark surface_mark
  white_excludes in_black e = let z : ◌≡◌ {A = ℕ} 0 1 = cc in omega arith
  white_excludes (above_plane {i = i} k) e =
      outside_plane (row_at surfaces.rows i) b q p w (white_means _ b (sym (side_mark_lem surfaces as_it_is (halfspace i) b) ∙ e)).1 k
  white_excludes (below_plane {i = i} k) e =
      inside_plane (row_at surfaces.rows i) b q p w (black_means _ b (opposite_white _ (sym (side_mark_lem surfaces reversed (halfspace i) b) ∙ e))) k
  white_excludes (in_ball {i = i} k) e = not_in_ball i (sym (side_mark_lem surfaces as_it_is (ball i) b) ∙ e) k
  white_excludes (out_of_ball {i = i} k) e = not_out_of_ball i (opposite_white _ (sym (side_mark_lem surfaces reversed (ball i) b) ∙ e)) k
  white_excludes (in_first {a = a} {b = c} k) e = white_excludes k (union_white (plain_mark surfaces a b) (plain_mark surfaces c b) e).0
  white_excludes (in_second {a = a} {b = c} k) e = white_excludes k (union_white (plain_mark surfaces a b) (plain_mark surfaces c b) e).1
  white_excludes (in_both {a = a} {b = c} k l) e =
      by (white_excludes k) (white_excludes l) (intersection_white (plain_mark surfaces a b) (plain_mark surfaces c b) e)
    where
      by : (plain_mark surfaces a b ≡ decided White → ⊥) → (plain_mark surfaces c b ≡ decided White → ⊥) →
          (plain_mark surfaces a b ≡ decided White) ⊎ (plain_mark surfaces c b ≡ decided White) → ⊥
      by x y (inl f) = x f
      by x y (inr f) = y f
