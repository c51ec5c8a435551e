-- A tree filled into the row. A halved block has at each place what both its halves have there (bintree's `halves_frames`), a black one as much at each of its
-- frames; so a tree adds what it has. No place overflows: a tree adds at most its block's voxels.
use mathlib.Core.Path.{◌≡◌, refl, sym, ap, ◌∙◌}
use mathlib.Core.Bool.{Bool, true, false, cond, ◌&&◌}
use mathlib.Core.List.{List}
use Prim.Native.Nat.{ℕ, suc, ◌+◌, ◌-◌, ◌^◌, ◌≤◌, ◌<◌}
use native.Mathlib.Nat.{pow-suc}
use native.Mathlib.Omega.{arith}
use borrow.Author.Rules.{rules}
use lib.Dec.{leb, ltb}
use lib.ListN.{length, get_or}
use lib.Pow.{pow_mono}
use Rattle.universe.specs.Universe.{universe_refusal, levels, most_levels, longest_side, frame_axis, block_side}
use Rattle.universe.proofs.Universes.{accepted, levels_few, side_few, voxels_left_lem}
use Rattle.bintree.specs.declared.Colour.TheVariants.{White, Black}
use Rattle.bintree.specs.Shape.{Shape, leaf, halved, open_symbol, symbol_of, size, depth}
use Rattle.bintree.specs.Reading.{read, read_at}
use Rattle.bintree.specs.Counts.{frames, voxels_from, inside}
use Rattle.bintree.specs.Windows.{frame_bits}
use Rattle.bintree.proofs.Shape.{size_positive, symbol_not_open, symbol_injective}
use Rattle.bintree.proofs.Reading as reading
use Rattle.bintree.proofs.Reading.{Stands, leaf_stands, open_stands, stands, stood, depth_stands}
use Rattle.bintree.proofs.Counts.{frame_most}
use Rattle.bintree.proofs.Frames.{bits_left, bits_grow}
use Rattle.bintree.proofs.Watches.{Carried, each_are}
use Rattle.bintree.proofs.Windows.{none_inside, low_begins, high_begins, halves_frames}
use Rattle.report.specs.declared.window.Window.{Window}
use Rattle.report.specs.Filling.{length_of, Adds, Takes, black_of, Halved, Fillable, voxels_of, Filled}

-- ---- what stands at a tree's first symbol
pub record Opens (s : List ℕ) (left p : ℕ) (a : Shape) : Type 0 where
  pub some : 0 < left
  pub low : Shape
  pub high : Shape
  pub are : a ≡ halved low high
  pub reads_low : read_at s (left - 1) (p + 1) ≡ read low
  pub reads_high : read_at s (left - 1) (p + 1 + size low) ≡ read high

opens : {s : List ℕ} {left p : ℕ} {a : Shape} → Stands s left p a → get_or s p 0 ≡ open_symbol → Opens s left p a
opens (leaf_stands {c = c} e) h = absurd (symbol_not_open c (sym e ∙ h))
opens (open_stands {n = n} {p = p} {a = a} {b = b} e l r) h =
    let q : p + 1 ≡ suc p = omega arith in
    let d : suc n - 1 ≡ n = omega arith in
    record { some = omega arith; low = a; high = b; are = refl; reads_low = rw (d, q) (stood l); reads_high = rw (d, q) (stood r) }

is_white : {s : List ℕ} {left p : ℕ} {a : Shape} → Stands s left p a → get_or s p 0 ≡ symbol_of White → a ≡ leaf White
is_white (leaf_stands {c = c} e) h = ap leaf (symbol_injective c White (sym e ∙ h))
is_white (open_stands e l r) h = absurd (omega (arith, e, h))

is_black_lem : {s : List ℕ} {left p : ℕ} {a : Shape} → Stands s left p a → (get_or s p 0 ≡ open_symbol → ⊥) → (get_or s p 0 ≡ symbol_of White → ⊥) → a ≡ leaf Black
is_black_lem (leaf_stands {c = Black} e) h k = refl
is_black_lem (leaf_stands {c = White} e) h k = absurd (k e)
is_black_lem (open_stands e l r) h k = absurd (h e)

-- ---- rows with more at their places
adds_then :
    {n : ℕ} {f g h : ℕ → ℕ} {x y z : List ℕ} → Adds n f x y → Adds n g y z → ((c : ℕ) → c < n → f c + g c ≡ h c) → Adds n h x z
adds_then a b e =
    record { long = b.long ∙ a.long; front = λ c k. omega (arith, a.front c k, b.front c k, e c k); behind = b.behind ∙ a.behind }

adds_same : {n : ℕ} {f g : ℕ → ℕ} {x y : List ℕ} → Adds n f x y → ((c : ℕ) → c < n → f c ≡ g c) → Adds n g x y
adds_same a e = record { long = a.long; front = λ c k. omega (arith, a.front c k, e c k); behind = a.behind }

adds_nothing : {n : ℕ} {f : ℕ → ℕ} {x : List ℕ} → ((c : ℕ) → f c ≡ 0) → Adds n f x x
adds_nothing e = record { long = refl; front = λ c k. omega (arith, e c); behind = refl }

-- a tree has at a place at most its block's voxels
inside_most : (frame n : ℕ) (f : ℕ → ℕ) (c : ℕ) → inside frame n f c ≤ f c
unfolding inside
inside_most frame n f c = go (leb frame c && ltb c (frame + n))
  where
    go : (b : Bool) → cond b (f c) 0 ≤ f c
    go true = omega arith
    go false = omega arith

pub voxels_most :
    (w : Window) (left frame : ℕ) (a : Shape) (c : ℕ) → universe_refusal w.universe ≡ 0 → left ≤ levels w.universe → depth a ≤ left →
    voxels_of w left frame a c ≤ 2 ^ left
voxels_most w left frame a c ok few d =
    let u = w.universe in
    let l = levels u - left in
    let some = (accepted u ok).some_axes in
    omega (
      arith,
      inside_most frame (frames u l) (voxels_from u l a) (w.first + c),
      frame_most u some l a (w.first + c) (omega arith),
      voxels_left_lem u some left l (omega arith),
    )

-- ---- the laws of `fill`
module _ (w : Window) (axes s row : List ℕ) (p left bits frame : ℕ) (f : Fillable w axes s row p left bits frame) where
  abbrev level : ℕ
  level = levels w.universe - left

  there : Stands s left p f.shape
  there = stands s left p f.shape f.reads

  some_axes : 0 < w.universe.axes
  some_axes = (accepted w.universe w.accepts).some_axes

  pub fill_place : p < length s
  fill_place = omega (arith, reading.inside there, size_positive f.shape)

  pub fill_next : length s < 2 ^ 64 → p + 1 < 2 ^ 64
  fill_next h = omega (arith, fill_place)

  pub fill_frames : frame + 2 ^ bits ≤ longest_side
  fill_frames = omega (arith, f.within, side_few w.universe (accepted w.universe w.accepts) (frame_axis w.universe))

  -- another reading is the same shape
  same_shape : (a : Shape) → read_at s left p ≡ read a → a ≡ f.shape
  same_shape a e = let r = f.reads in cc

  -- `(`
  module _ (e : get_or s p 0 ≡ open_symbol) where
    o : Opens s left p f.shape
    o = opens there e

    pub fill_some : 1 ≤ left
    fill_some = o.some

    pub fill_less : (t : ℕ) → left ≡ t → left - 1 < t
    fill_less t h = omega (arith, o.some)

    pub fill_halved : Halved w.universe axes left bits
    fill_halved = record { accepts = w.accepts; table = f.table; some = o.some; few = f.few; wide = f.wide }

    next_level : levels w.universe - (left - 1) ≡ suc level
    next_level = omega (arith, f.few, o.some)

    above : level < levels w.universe
    above = omega (arith, f.few, o.some)

    twice : 2 ^ (left - 1) + 2 ^ (left - 1) ≡ 2 ^ left
    twice =
        let again : suc (left - 1) ≡ left = omega (arith, o.some) in
        omega (arith, pow-suc 2 (left - 1), ap (λ (x : ℕ). 2 ^ x) again)

    module _ (below : ℕ) (b : below ≡ frame_bits w.universe (left - 1)) where
      pub fill_below : below ≤ bits
      fill_below =
          let again : suc (left - 1) ≡ left = omega (arith, o.some) in
          rw (b, f.wide) (rw again at (bits_grow w.universe w.accepts (left - 1) (omega (arith, f.few, o.some))))

      pub fill_low : Fillable w axes s row (p + 1) (left - 1) below frame
      fill_low =
          record {
            table = f.table;
            few = omega (arith, f.few);
            wide = b;
            within = omega (arith, f.within, pow_mono fill_below);
            begins = let b = low_begins w.universe some_axes level above f.begins.0 frame f.begins.1 in (b.0, rw next_level b.1);
            shape = o.low;
            reads = o.reads_low;
            takes = record { long = f.takes.long; under = λ c h. omega (arith, f.takes.under c h, twice) };
          }

      module _ (later middle : ℕ) (row₁ : List ℕ) (g : later ≡ frame + (2 ^ bits - 2 ^ below))
          (x : Filled w s (p + 1) (left - 1) frame middle row row₁) where
        later_is : later ≡ frame + (frames w.universe level - frames w.universe (suc level))
        unfolding block_side frame_bits
        later_is = g ∙ rw (f.wide, b, next_level)

        middle_is : middle ≡ p + 1 + size o.low
        middle_is = x.ends o.low o.reads_low

        low_adds : Adds (length_of w) (voxels_of w (left - 1) frame o.low) row row₁
        low_adds = x.adds o.low o.reads_low

        low_most : (c : ℕ) → voxels_of w (left - 1) frame o.low c ≤ 2 ^ (left - 1)
        low_most c =
            voxels_most w (left - 1) frame o.low c w.accepts (omega (arith, f.few))
            (depth_stands (stands s (left - 1) (p + 1) o.low o.reads_low))

        pub fill_high : Fillable w axes s row₁ middle (left - 1) below later
        fill_high =
            record {
              table = f.table;
              few = omega (arith, f.few);
              wide = b;
              within = omega (arith, g, f.within, pow_mono fill_below);
              begins =
                  let b = high_begins w.universe some_axes level above f.begins.0 frame f.begins.1 in (b.0, rw (next_level, later_is) b.1);
              shape = o.high;
              reads = rw middle_is o.reads_high;
              takes =
                  record {
                    long = omega (arith, f.takes.long, low_adds.long);
                    under = λ c h. omega (arith, f.takes.under c h, low_adds.front c h, low_most c, twice);
                  };
            }

        pub fill_both : (end : ℕ) (row₂ : List ℕ) → Filled w s middle (left - 1) later end row₁ row₂ → Filled w s p left frame end row row₂
        unfolding size
        fill_both end row₂ y = record { ends = λ a e. rw (whole a e) after; adds = λ a e. rw (whole a e) (adds_then low_adds high_adds both) }
          where
            whole : (a : Shape) → read_at s left p ≡ read a → a ≡ halved o.low o.high
            whole a e = same_shape a e ∙ o.are

            reads_there : read_at s (left - 1) middle ≡ read o.high
            reads_there = rw middle_is o.reads_high

            after : end ≡ p + size (halved o.low o.high)
            after = omega (arith, middle_is, y.ends o.high reads_there)

            high_adds : Adds (length_of w) (voxels_of w (left - 1) later o.high) row₁ row₂
            high_adds = y.adds o.high reads_there

            both :
                (c : ℕ) → c < length_of w →
                voxels_of w (left - 1) frame o.low c + voxels_of w (left - 1) later o.high c ≡ voxels_of w left frame (halved o.low o.high) c
            both c h =
                rw (next_level, later_is)
                (halves_frames w.universe some_axes level above f.begins.0 frame f.begins.1 o.low o.high (w.first + c))

  -- `W` and `B`
  pub fill_white : get_or s p 0 ≡ symbol_of White → Filled w s p left frame (p + 1) row row
  unfolding size voxels_from inside
  fill_white e =
      let white : (a : Shape) → read_at s left p ≡ read a → a ≡ leaf White = λ a r. same_shape a r ∙ is_white there e in
      record {
        ends = λ a r. rw (white a r);
        adds = λ a r. rw (white a r) (adds_nothing (λ c. none_inside frame (frames w.universe level) (w.first + c)));
      }

  pub fill_bits : bits ≤ left
  fill_bits = rw f.wide (bits_left w.universe w.accepts left f.few)

  pub fill_rest : left - bits ≤ most_levels
  fill_rest = omega (arith, f.few, levels_few w.universe (accepted w.universe w.accepts))

  pub fill_takes : Takes w (2 ^ (left - bits)) row
  fill_takes =
      let less : left - bits ≤ left = omega arith in
      record { long = f.takes.long; under = λ c h. omega (arith, f.takes.under c h, pow_mono less) }

  carried : Carried w.universe left frame 0
  carried =
      record {
        accepts = w.accepts;
        few = f.few;
        inside = rw f.wide at f.within;
        most = omega (arith, pow_mono f.few);
      }

  black_at : (c : ℕ) → black_of w frame bits (left - bits) c ≡ voxels_of w left frame (leaf Black) c
  unfolding voxels_from inside block_side frame_bits
  black_at c = rw (f.wide, each_are w.universe left frame 0 carried)

  pub fill_black :
      (after : List ℕ) → (get_or s p 0 ≡ open_symbol → ⊥) → (get_or s p 0 ≡ symbol_of White → ⊥) →
      Adds (length_of w) (black_of w frame bits (left - bits)) row after → Filled w s p left frame (p + 1) row after
  unfolding size
  fill_black after h k x =
      let black : (a : Shape) → read_at s left p ≡ read a → a ≡ leaf Black = λ a r. same_shape a r ∙ is_black_lem there h k in
      record { ends = λ a r. rw (black a r); adds = λ a r. rw (black a r) (adds_same x (λ c i. black_at c)) }

pub ruleset fill_laws = (
  rules,
  fill_place,
  fill_next,
  fill_frames,
  fill_some,
  fill_less,
  fill_halved,
  fill_below,
  fill_low,
  fill_high,
  fill_both,
  fill_white,
  fill_bits,
  fill_rest,
  fill_takes,
  fill_black,
)
