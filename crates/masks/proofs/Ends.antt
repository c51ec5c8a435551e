-- The best frame known. What a test makes of it is fixed by three things: it is as good as what was known, as good as every frame that the test names,
-- and it is one of these. So halves may be taken in either order, and a block whose own frames are no better makes nothing of it: branch and bound.
use mathlib.Core.Path.{◌≡◌, refl, sym, ap, ◌∙◌, subst}
use mathlib.Core.Bool.{Bool, true, false, cond}
use mathlib.Core.Logic.{◌⊎◌, inl, inr}
use mathlib.Core.List.{List}
use Prim.Native.Nat.{ℕ, zero, suc, ◌+◌, ◌^◌, ◌≤◌, ◌<◌}
use native.Mathlib.Omega.{arith}
use native.Mathlib.Decide.{ℕ_discrete, dec_le}
use lib.Dec.{leb}
use borrow.Author.Tests.{leb-true}
use Rattle.lemmas.proofs.Sums.{and_left, and_right}
use Rattle.universe.specs.declared.Block.{Block}
use Rattle.universe.specs.Universe.{frame_axis}
use Rattle.universe.specs.Block.{low, high}
use Rattle.universe.specs.Voxel.{Within}
use Rattle.universe.proofs.Blocks.{given_placed}
use Rattle.bintree.specs.declared.Colour.{Colour}
use Rattle.bintree.specs.declared.Colour.TheVariants.{White, Black}
use Rattle.demands.specs.Voxels.{Colouring, is_black}
use Rattle.demands.specs.Verdicts.{frame_of}
use Rattle.masks.specs.Block.{part_at, voxel_at, is_black_at}
use Rattle.masks.specs.Windows.{is_between, windowed}
use Rattle.masks.specs.Ends.{better, AsGood, no_later, no_earlier, end_among, end_in, best_frame, best_seen}
use Rattle.masks.proofs.Block.{Left, part_low, part_high, two_powers, voxel_within}

-- ---- the order of frames, by which end is sought

pub good_self : (last : Bool) (x : ℕ) → AsGood x x last
good_self true x = no_earlier (omega arith)
good_self false x = no_later (omega arith)

pub good_then : {last : Bool} {x y z : ℕ} → AsGood x y last → AsGood y z last → AsGood x z last
good_then (no_later h) (no_later k) = no_later (omega arith)
good_then (no_earlier h) (no_earlier k) = no_earlier (omega arith)

pub good_both : {last : Bool} {x y : ℕ} → AsGood x y last → AsGood y x last → x ≡ y
good_both (no_later h) (no_later k) = omega arith
good_both (no_earlier h) (no_earlier k) = omega arith

pub better_first : (last : Bool) (x y : ℕ) → AsGood (better last x y) x last
better_first true x y = no_earlier (omega arith)
better_first false x y = no_later (omega arith)

pub better_second : (last : Bool) (x y : ℕ) → AsGood (better last x y) y last
better_second true x y = no_earlier (omega arith)
better_second false x y = no_later (omega arith)

pub better_one : (last : Bool) (x y : ℕ) → (better last x y ≡ x) ⊎ (better last x y ≡ y)
better_one last x y = go last (dec_le x y)
  where
    go : (last : Bool) → Dec (x ≤ y) → (better last x y ≡ x) ⊎ (better last x y ≡ y)
    go true (yes h) = inr (omega arith)
    go true (no h) = inl (omega arith)
    go false (yes h) = inl (omega arith)
    go false (no h) = inr (omega arith)

pub better_known : (last : Bool) (x y : ℕ) → AsGood x y last → better last x y ≡ x
better_known true x y (no_earlier h) = omega arith
better_known false x y (no_later h) = omega arith

-- a colour that a test lets through
pub seen_black : (t : Bool) (c : Colour) → is_black (cond t c White) ≡ true → (t ≡ true) × (c ≡ Black)
seen_black true Black h = (refl, refl)
seen_black true White h = let z : ◌≡◌ {A = ℕ} 0 1 = cc in absurd (omega arith)
seen_black false c h = let z : ◌≡◌ {A = ℕ} 0 1 = cc in absurd (omega arith)

-- ---- what fixes the best frame

-- a number below n at which a test holds, and its frame
pub record Attains (test : ℕ → Bool) (frame : ℕ → ℕ) (n e : ℕ) : Type 0 where
  pub number : ℕ
  pub below : number < n
  pub holds : test number ≡ true
  pub has : e ≡ frame number

pub record Best (last : Bool) (test : ℕ → Bool) (frame : ℕ → ℕ) (known n e : ℕ) : Type 0 where
  pub as_known : AsGood e known last
  pub as_others : (i : ℕ) → i < n → test i ≡ true → AsGood e (frame i) last
  pub is_one : (e ≡ known) ⊎ Attains test frame n e

module _ {last : Bool} {test : ℕ → Bool} {frame : ℕ → ℕ} {known n : ℕ} where
  as_good : (e f : ℕ) → Best last test frame known n e → Best last test frame known n f → AsGood e f last
  as_good e f x y = go y.is_one
    where
      go : (f ≡ known) ⊎ Attains test frame n f → AsGood e f last
      go (inl q) = subst (λ z. AsGood e z last) (sym q) x.as_known
      go (inr w) = subst (λ z. AsGood e z last) (sym w.has) (x.as_others w.number w.below w.holds)

  -- THEOREM: there is one best
  pub best_once : (e f : ℕ) → Best last test frame known n e → Best last test frame known n f → e ≡ f
  best_once e f x y = good_both (as_good e f x y) (as_good f e y x)

pub not_both : {t : Bool} → t ≡ true → t ≡ false → ⊥
not_both e f = let z : ◌≡◌ {A = ℕ} 0 1 = cc in omega arith

wider : {test : ℕ → Bool} {frame : ℕ → ℕ} {known n e : ℕ} → (e ≡ known) ⊎ Attains test frame n e → (e ≡ known) ⊎ Attains test frame (suc n) e
wider (inl q) = inl q
wider (inr w) = inr (record { number = w.number; below = omega (arith, w.below); holds = w.holds; has = w.has })

module _ (last : Bool) (test : ℕ → Bool) (frame : ℕ → ℕ) (known : ℕ) where
  best_skips : (n e : ℕ) → test n ≡ false → Best last test frame known n e → Best last test frame known (suc n) e
  best_skips n e q x = record { as_known = x.as_known; as_others = λ i l h. go i l h (ℕ_discrete i n); is_one = wider x.is_one }
    where
      go : (i : ℕ) → i < suc n → test i ≡ true → Dec (i ≡ n) → AsGood e (frame i) last
      go i l h (yes r) = absurd (not_both (ap test (sym r) ∙ h) q)
      go i l h (no r) = x.as_others i (omega arith) h

  best_takes : (n e : ℕ) → test n ≡ true → Best last test frame known n e → Best last test frame known (suc n) (better last e (frame n))
  best_takes n e q x = record {
    as_known = good_then (better_first last e (frame n)) x.as_known;
    as_others = λ i l h. go i l h (ℕ_discrete i n);
    is_one = one (better_one last e (frame n));
  }
    where
      go : (i : ℕ) → i < suc n → test i ≡ true → Dec (i ≡ n) → AsGood (better last e (frame n)) (frame i) last
      go i l h (yes r) = subst (λ j. AsGood (better last e (frame n)) (frame j) last) (sym r) (better_second last e (frame n))
      go i l h (no r) = good_then (better_first last e (frame n)) (x.as_others i (omega arith) h)

      one : (better last e (frame n) ≡ e) ⊎ (better last e (frame n) ≡ frame n) →
          (better last e (frame n) ≡ known) ⊎ Attains test frame (suc n) (better last e (frame n))
      one (inl r) = rw r (wider x.is_one)
      one (inr r) = inr (record { number = n; below = omega arith; holds = q; has = r })

  -- THEOREM: the definition gives it
  pub end_best : (n : ℕ) → Best last test frame known n (end_among last test frame known n)
  unfolding end_among
  end_best zero = record { as_known = good_self last known; as_others = λ i l h. absurd (omega arith); is_one = inl refl }
  end_best (suc n) = go (test n) refl (end_best n)
    where
      go : (t : Bool) → test n ≡ t → Best last test frame known n (end_among last test frame known n) →
          Best last test frame known (suc n)
          (cond t (better last (end_among last test frame known n) (frame n)) (end_among last test frame known n))
      go true q x = best_takes n _ q x
      go false q x = best_skips n _ q x

  pub end_is : (n e : ℕ) → Best last test frame known n e → end_among last test frame known n ≡ e
  end_is n e x = best_once (end_among last test frame known n) e (end_best n) x

  -- where every frame that is named is no better than what is known, nothing changes
  pub end_stays : (n : ℕ) → ((i : ℕ) → i < n → test i ≡ true → AsGood known (frame i) last) → end_among last test frame known n ≡ known
  end_stays n h = end_is n known (record { as_known = good_self last known; as_others = h; is_one = inl refl })

pub end_cong : (last : Bool) (f g : ℕ → Bool) (x y : ℕ → ℕ) (known n : ℕ) → ((i : ℕ) → i < n → f i ≡ g i) → ((i : ℕ) → i < n → x i ≡ y i) →
    end_among last f x known n ≡ end_among last g y known n
unfolding end_among
end_cong last f g x y known zero h k = refl
end_cong last f g x y known (suc n) h k =
    let e = end_cong last f g x y known n (λ i l. h i (omega arith)) (λ i l. k i (omega arith)) in
    rw (h n (omega arith), k n (omega arith), e)

-- the first a numbers, and then b more
pub end_apart : (last : Bool) (f : ℕ → Bool) (x : ℕ → ℕ) (known a b : ℕ) →
    end_among last f x known (a + b) ≡ end_among last (λ i. f (a + i)) (λ i. x (a + i)) (end_among last f x known a) b
unfolding end_among
end_apart last f x known a zero = let e : a + 0 ≡ a = omega arith in rw e
end_apart last f x known a (suc b) =
    let e : a + suc b ≡ suc (a + b) = omega arith in
    rw (e, end_apart last f x known a b)

-- ---- the order in which numbers are taken does not matter

better_swap : (last : Bool) (k a c : ℕ) → better last (better last k a) c ≡ better last (better last k c) a
better_swap true k a c = omega arith
better_swap false k a c = omega arith

end_better : (last : Bool) (f : ℕ → Bool) (x : ℕ → ℕ) (known a n : ℕ) →
    end_among last f x (better last known a) n ≡ better last (end_among last f x known n) a
unfolding end_among
end_better last f x known a zero = refl
end_better last f x known a (suc n) = rw (end_better last f x known a n) (go (f n))
  where
    go : (t : Bool) →
        cond t (better last (better last (end_among last f x known n) a) (x n)) (better last (end_among last f x known n) a)
        ≡ better last (cond t (better last (end_among last f x known n) (x n)) (end_among last f x known n)) a
    go true = better_swap last (end_among last f x known n) a (x n)
    go false = refl

pub end_swap : (last : Bool) (f g : ℕ → Bool) (x y : ℕ → ℕ) (known n m : ℕ) →
    end_among last f x (end_among last g y known m) n ≡ end_among last g y (end_among last f x known n) m
unfolding end_among
end_swap last f g x y known n zero = refl
end_swap last f g x y known n (suc m) = go (g m) (end_swap last f g x y known n m)
  where
    go : (t : Bool) → end_among last f x (end_among last g y known m) n ≡ end_among last g y (end_among last f x known n) m →
        end_among last f x (cond t (better last (end_among last g y known m) (y m)) (end_among last g y known m)) n
        ≡ cond t (better last (end_among last g y (end_among last f x known n) m) (y m)) (end_among last g y (end_among last f x known n) m)
    go true e = end_better last f x (end_among last g y known m) (y m) n ∙ ap (λ z. better last z (y m)) e
    go false e = e

-- ---- blocks

-- THEOREM: a block holds no frame before its first and none after its last
pub block_frames : (last : Bool) (b : Block) (v : List ℕ) → 0 < b.universe.axes → Within b v → AsGood (best_frame last b) (frame_of b.universe v) last
block_frames true b v h w = no_earlier (omega (arith, w.below (frame_axis b.universe) (omega arith)))
block_frames false b v h w = no_later (w.above (frame_axis b.universe) (omega arith))

module _ (last : Bool) (colours : Colouring) where
  -- of one voxel
  pub end_voxel : (b : Block) (known : ℕ) →
      end_in last colours 0 b known ≡ cond (is_black (colours b.low)) (better last known (frame_of b.universe b.low)) known
  unfolding end_in end_among part_at
  end_voxel b known = refl

  -- THEOREM: of a block it is that of its halves, one after the other, in either order
  pub end_halves : (n : ℕ) (b : Block) (known : ℕ) → end_in last colours (suc n) b known ≡ end_in last colours n (high b) (end_in last colours n (low b) known)
  unfolding end_in
  end_halves n b known =
      ap (end_among last (is_black_at colours (suc n) b) (λ i. frame_of b.universe (voxel_at (suc n) b i)) known) (two_powers n)
      ∙ end_apart last (is_black_at colours (suc n) b) (λ i. frame_of b.universe (voxel_at (suc n) b i)) known (2 ^ n) (2 ^ n)
      ∙ end_cong last _ (is_black_at colours n (high b)) _ (λ i. frame_of b.universe (voxel_at n (high b) i)) _ (2 ^ n)
      (λ i l. ap (λ (p : Block). is_black (colours p.low)) (part_high n b i l))
      (λ i l. ap (λ (p : Block). frame_of b.universe p.low) (part_high n b i l))
      ∙ ap (λ k. end_among last (is_black_at colours n (high b)) (λ i. frame_of b.universe (voxel_at n (high b) i)) k (2 ^ n))
      (end_cong last _ (is_black_at colours n (low b)) _ (λ i. frame_of b.universe (voxel_at n (low b) i)) known (2 ^ n)
      (λ i l. ap (λ (p : Block). is_black (colours p.low)) (part_low n b i l))
      (λ i l. ap (λ (p : Block). frame_of b.universe p.low) (part_low n b i l)))

  pub end_either : (n m : ℕ) (b c : Block) (known : ℕ) →
      end_in last colours n b (end_in last colours m c known) ≡ end_in last colours m c (end_in last colours n b known)
  unfolding end_in
  end_either n m b c known = end_swap last _ _ _ _ known (2 ^ n) (2 ^ m)

  -- THEOREM: BRANCH AND BOUND: where what is known is as good as the best frame that a block has at all, the block need not be entered
  pub end_bound : (n : ℕ) (b : Block) (known : ℕ) → Left n b → AsGood known (best_frame last b) last → end_in last colours n b known ≡ known
  unfolding end_in
  end_bound n b known l h =
      end_stays last (is_black_at colours n b) (λ i. frame_of b.universe (voxel_at n b i)) known (2 ^ n)
      (λ i k e. good_then h (block_frames last b (voxel_at n b i) (given_placed l.given).taken.some_axes (voxel_within n b i l)))

  -- where no voxel of the block is black, nothing changes
  pub end_white : (n : ℕ) (b : Block) (known : ℕ) → ((i : ℕ) → i < 2 ^ n → colours (voxel_at n b i) ≡ White) → end_in last colours n b known ≡ known
  unfolding end_in
  end_white n b known h =
      end_stays last (is_black_at colours n b) (λ i. frame_of b.universe (voxel_at n b i)) known (2 ^ n)
      (λ i k e. absurd (not_both e (ap is_black (h i k))))

-- ---- within a window

module _ (from to : ℕ) (colours : Colouring) (n : ℕ) (b : Block) (l : Left n b) where
  -- the frame of a black voxel of the block in the window lies between the best frames that the block has there
  pub seen_between : (i : ℕ) → is_black_at (windowed b.universe from to colours) n b i ≡ true →
      (best_seen false from to b ≤ frame_of b.universe (voxel_at n b i)) × (frame_of b.universe (voxel_at n b i) ≤ best_seen true from to b)
  seen_between i h =
      let v = voxel_at n b i in
      let frame = frame_of b.universe v in
      let s = (seen_black (is_between from to frame) (colours v) h).0 in
      let a : from ≤ frame = leb-true _ _ (and_left (leb from frame) (leb frame to) s) in
      let c : frame ≤ to = leb-true _ _ (and_right (leb from frame) (leb frame to) s) in
      let some : 0 < b.universe.axes = (given_placed l.given).taken.some_axes in
      let axis : frame_axis b.universe < b.universe.axes = omega arith in
      let w = voxel_within n b i l in
      (omega (arith, w.above (frame_axis b.universe) axis), omega (arith, w.below (frame_axis b.universe) axis))

  pub best_between : (last : Bool) (c : ℕ) → best_seen false from to b ≤ c → c ≤ best_seen true from to b → AsGood (best_seen last from to b) c last
  best_between true c h k = no_earlier k
  best_between false c h k = no_later h

  -- THEOREM: branch and bound within a window: the best frame that the block has there is enough
  pub end_bound_seen : (last : Bool) (known : ℕ) → AsGood known (best_seen last from to b) last →
      end_in last (windowed b.universe from to colours) n b known ≡ known
  unfolding end_in
  end_bound_seen last known h =
      end_stays last (is_black_at (windowed b.universe from to colours) n b) (λ i. frame_of b.universe (voxel_at n b i)) known (2 ^ n)
      (λ i k e. good_then h (best_between last (frame_of b.universe (voxel_at n b i)) (seen_between i e).0 (seen_between i e).1))
