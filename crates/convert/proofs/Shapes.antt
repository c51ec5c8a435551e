-- What the recursion meets at a block: judged BLACK or WHITE it is one leaf, undecided it is halved, and both halves can be laid one level on. A shape of n
-- levels has fewer than 2^(n+1) symbols, so that lengths fit.
use Prim.Native.Nat.{ℕ, zero, suc, ◌+◌, ◌-◌, ◌^◌, ◌≤◌, ◌<◌, max}
use mathlib.Core.Path.{◌≡◌, refl, ap, ap₂, ◌∙◌}
use mathlib.Core.Bool.{Bool, true, false, ◌&&◌}
use mathlib.Core.List.{List}
use native.Mathlib.Nat.{le-max_left, le-max_right, two-pow-succ, le_trans, le_refl}
use native.Mathlib.Omega.{arith}
use lib.Pow.{pow_mono}
use Rattle.universe.specs.declared.Universe.{Universe}
use Rattle.universe.specs.Universe.{most_levels}
use Rattle.universe.proofs.Universes.{accepted, levels_few}
use Rattle.bintree.specs.declared.Colour.{Colour}
use Rattle.bintree.specs.declared.Colour.TheVariants.{White, Black}
use Rattle.bintree.specs.Shape.{Shape, leaf, halved, size, depth, symbol_of}
use Rattle.bintree.specs.Merging.{merged}
use Rattle.bintree.specs.Walks.{leaf_symbol, is_alike}
use Rattle.bintree.proofs.Shape.{size_positive}
use Rattle.bintree.proofs.Merging.{merged_size}
use Rattle.bintree.proofs.Lays.{merged_same, merged_apart}
use Rattle.csg.specs.Halfspace.{Mark, decided, undecided}
use Rattle.csg.specs.Surfaces.{Surfaces}
use Rattle.csg.specs.Tree.{Tree}
use Rattle.csg.specs.Raw.{examine}
use Rattle.csg.proofs.Raw.{examine_depth}
use lib.IntN.{ℤ}
use lib.ListN.{get_or}
use Rattle.convert.specs.Codes.{bits_of}
use Rattle.convert.specs.Blocks.{Ready, Standing, Halved, Carried, trees_of, block_left, axis_left, high_lows, judged}
use Rattle.convert.specs.Shapes.{shape_of, shaped, symbol_of_bits, end_limit, Laying, Halving}
use Rattle.convert.proofs.Blocks.{axis_is, axis_few, high_ends, lower_standing, upper_standing, lower_is, upper_is}
use Rattle.convert.proofs.Judging.{written_decided, written_halved, never_last}

-- ---- a shape merged or as it is: a leaf is itself, halves of one colour become one leaf only where shapes are merged
pub shaped_leaf : (m : Bool) (c : Colour) → shaped m (leaf c) ≡ leaf c
unfolding shaped merged
shaped_leaf true c = refl
shaped_leaf false c = refl

pub shaped_size : (m : Bool) (s : Shape) → size (shaped m s) ≤ size s
unfolding shaped
shaped_size true s = merged_size s
shaped_size false s = le_refl (size s)

module _ (m : Bool) (a b : Shape) where
  pub shaped_one : m && is_alike (leaf_symbol (shaped m a)) (leaf_symbol (shaped m b)) ≡ true →
      (c : Colour) × (shaped m a ≡ leaf c) × (shaped m b ≡ leaf c) × (shaped m (halved a b) ≡ leaf c)
  unfolding shaped
  shaped_one = by m
    where
      by : (n : Bool) → n && is_alike (leaf_symbol (shaped n a)) (leaf_symbol (shaped n b)) ≡ true →
          (c : Colour) × (shaped n a ≡ leaf c) × (shaped n b ≡ leaf c) × (shaped n (halved a b) ≡ leaf c)
      by true e = merged_same a b e
      by false e = let z : ◌≡◌ {A = ℕ} 0 1 = cc in absurd (omega arith)

  pub shaped_apart : m && is_alike (leaf_symbol (shaped m a)) (leaf_symbol (shaped m b)) ≡ false → shaped m (halved a b) ≡ halved (shaped m a) (shaped m b)
  unfolding shaped
  shaped_apart = by m
    where
      by : (n : Bool) → n && is_alike (leaf_symbol (shaped n a)) (leaf_symbol (shaped n b)) ≡ false → shaped n (halved a b) ≡ halved (shaped n a) (shaped n b)
      by true e = merged_apart a b e
      by false e = refl

-- ---- how long a shape can be
size_most : (s : Shape) → size s < 2 ^ suc (depth s)
unfolding size depth
size_most (leaf c) = omega arith
size_most (halved a b) =
    let d = max (depth a) (depth b) in
    let p = pow_mono {i = suc (depth a)} {j = suc d} (omega (arith, le-max_left (depth a) (depth b))) in
    let q = pow_mono {i = suc (depth b)} {j = suc d} (omega (arith, le-max_right (depth a) (depth b))) in
    omega (arith, size_most a, size_most b, p, q, two-pow-succ (suc d))

module _ {u : Universe} {surfaces : Surfaces} {first second : List ℕ} (r : Ready u surfaces first second) where
  abbrev trees : Tree
  trees = trees_of surfaces first second

  pub shape_small : {left : ℕ} {low side : List ℕ} → Standing u left low side → size (shape_of u surfaces first second left low) < 2 ^ suc most_levels
  unfolding shape_of
  shape_small {left} {low} s =
      let b = block_left u left low in
      let d = examine_depth surfaces trees left b in
      let e : suc (depth (examine surfaces trees left b)) ≤ suc most_levels = omega (arith, s.above, levels_few u (accepted u r.accepted_universe)) in
      le_trans (size_most (examine surfaces trees left b)) (pow_mono {i = suc (depth (examine surfaces trees left b))} {j = suc most_levels} e)

  -- ---- a block that is judged BLACK or WHITE: x is the bits that judging gave
  pub closed : (left : ℕ) (low : List ℕ) (x : ℕ) → x ≡ bits_of (judged surfaces trees left (block_left u left low)) → (x ≡ 0 → ⊥) →
      (c : Colour) × (shape_of u surfaces first second left low ≡ leaf c) × (symbol_of_bits x ≡ symbol_of c)
  unfolding shape_of
  closed left low x e n = by (judged surfaces trees left (block_left u left low)) refl
    where
      by : (m : Mark) → judged surfaces trees left (block_left u left low) ≡ m →
          (c : Colour) × (shape_of u surfaces first second left low ≡ leaf c) × (symbol_of_bits x ≡ symbol_of c)
      by (decided Black) f = let k : x ≡ 1 = e ∙ ap bits_of f in (Black, written_decided surfaces trees left (block_left u left low) Black f, rw k)
      by (decided White) f = let k : x ≡ 2 = e ∙ ap bits_of f in (White, written_decided surfaces trees left (block_left u left low) White f, rw k)
      by undecided f = absurd (n (e ∙ ap bits_of f))

-- ---- a block that is undecided: its halves can be laid one level on
left_open : (m : Mark) (x : ℕ) → x ≡ bits_of m → x ≡ 0 → m ≡ undecided
left_open (decided Black) x e z = absurd (omega arith)
left_open (decided White) x e z = absurd (omega arith)
left_open undecided x e z = refl

-- there is a place after the first symbol
pub one_fits : (s : Shape) (at : ℕ) → at + size s < end_limit → at + 1 < end_limit
one_fits s at h = omega (arith, size_positive s)

module _ {u : Universe} {surfaces : Surfaces} {first second axes turns low side : List ℕ} {leasts greatests : List ℤ} {amounts : List ℕ} {at : ℕ} where
  halving_below : (n axis : ℕ) → axis ≡ axis_left axes (suc n) → Laying u surfaces first second axes (suc n) low side at →
      Halved u turns → Carried u surfaces first second (suc n) low leasts greatests amounts →
      judged surfaces (trees_of surfaces first second) (suc n) (block_left u (suc n) low) ≡ undecided →
      Halving u surfaces first second axes turns (suc n) low side leasts greatests amounts axis at
  unfolding shape_of size
  halving_below n axis turn l d c f =
      let t = trees_of surfaces first second in
      let p : suc n - 1 ≡ n = omega arith in
      let e = l.ready.accepted_universe in
      let s = l.standing in
      let here : axis ≡ get_or axes n 0 = rw p at turn in
      let at_level = here ∙ axis_is u e l.order n s.above in
      let a : Shape = shape_of u surfaces first second n low in
      let b : Shape = shape_of u surfaces first second n (high_lows low side axis) in
      let below = ap (examine surfaces t n) (lower_is u e n low side s axis at_level) in
      let above = ap (examine surfaces t n) (upper_is u e n low side s axis at_level) in
      let is : shape_of u surfaces first second (suc n) low ≡ halved a b = written_halved surfaces t n (block_left u (suc n) low) f ∙ ap₂ halved below above in
      let long : size (shape_of u surfaces first second (suc n) low) ≡ suc (size a + size b) = ap size is in
      let lower = lower_standing u e n low side s axis at_level in
      let upper = upper_standing u e n low side s axis at_level in
      record {
        ready = l.ready;
        standing = s;
        turn = at_level;
        some = omega arith;
        place = omega (arith, s.above, levels_few u (accepted u e));
        within = axis_few u e n low side s axis at_level;
        fits = l.fits;
        ends = high_ends u e n low side s axis at_level;
        shape = rw p is;
        lower = rw p (record { ready = l.ready; order = l.order; standing = lower; fits = omega (arith, long, l.fits) });
        upper = rw p (λ middle h. record { ready = l.ready; order = l.order; standing = upper; fits = omega (arith, long, l.fits) });
        counted = d;
        carried = c;
      }

  pub halving : {left x : ℕ} → Laying u surfaces first second axes left low side at → Halved u turns →
      Carried u surfaces first second left low leasts greatests amounts →
      x ≡ bits_of (judged surfaces (trees_of surfaces first second) left (block_left u left low)) → x ≡ 0 →
      Halving u surfaces first second axes turns left low side leasts greatests amounts (axis_left axes left) at
  halving {left} {x} l d c e z = by left l c (left_open _ x e z)
    where
      by : (n : ℕ) → Laying u surfaces first second axes n low side at → Carried u surfaces first second n low leasts greatests amounts →
          judged surfaces (trees_of surfaces first second) n (block_left u n low) ≡ undecided →
          Halving u surfaces first second axes turns n low side leasts greatests amounts (axis_left axes n) at
      by zero k c f = absurd (never_last surfaces (trees_of surfaces first second) (block_left u 0 low) f)
      by (suc n) k c f = halving_below n (axis_left axes (suc n)) refl k d c f
