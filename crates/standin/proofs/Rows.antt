-- The answers for a proxy, by what the code holds of it: a Box, a Cut, or nothing where it is refused.
use Rattle.std.proofs.Common.{ℕ, ◌≡◌, ◌≤◌, Bool, true, false, cond, Option, Some, None, List, ℤ, nat_abs, refl, lit≤}
use Rattle.std.specs.Option.{option_map}
use Rattle.universe.specs.Refusals.{unless, bad_proxy}
use Rattle.universe.specs.Universe.{offset_limit, coefficient_limit}
use Rattle.standin.specs.declared.Triple.{Triple}
use Rattle.standin.specs.declared.Solid.{Solid}
use Rattle.standin.specs.declared.Solid.TheVariants.{Box, Cut}
use Rattle.standin.specs.declared.Proxy.{Proxy}
use Rattle.standin.specs.declared.ScaledBox.{ScaledBox}
use Rattle.standin.specs.declared.ScaledCut.{ScaledCut}
use Rattle.standin.specs.declared.Scaled.{Scaled}
use Rattle.standin.specs.declared.Scaled.TheVariants as scaled
use Rattle.standin.specs.Sixteenths.{corner_limit, normal_limit}
use Rattle.standin.specs.Rows.{takes_box, takes_cut, rows_between, row_across, rows_of_box, row_of_cut, zero_row, zero_rows}
use Rattle.standin.specs.Rows.{solid_refusal, solid_box_count, solid_box_rows, solid_cut_count, solid_cut_row}
use Rattle.standin.specs.Rows.{proxy_refusal, box_row_count, box_rows, cut_row_count, cut_row}
use Rattle.standin.specs.Held.{scaled_box, scaled_cut, scaled_solid, scaled_proxy, Limited}
use Rattle.standin.proofs.Held.{wider, back, number, box_limited, cut_limited}

-- the answers by what is held
abbrev refusal_held : Option Scaled → ℕ
refusal_held None = bad_proxy
refusal_held (Some x) = 0

abbrev six_held : Option Scaled → ℕ
six_held None = 0
six_held (Some (scaled.Box b)) = 6
six_held (Some (scaled.Cut c)) = 0

abbrev one_held : Option Scaled → ℕ
one_held None = 0
one_held (Some (scaled.Box b)) = 0
one_held (Some (scaled.Cut c)) = 1

abbrev rows_held : Option Scaled → List (List ℤ)
rows_held None = zero_rows
rows_held (Some (scaled.Box b)) = rows_between b.near b.far b.displacement
rows_held (Some (scaled.Cut c)) = zero_rows

abbrev row_held : Option Scaled → List ℤ
row_held None = zero_row
row_held (Some (scaled.Box b)) = zero_row
row_held (Some (scaled.Cut c)) = row_across c.normal c.offset c.displacement

-- they are those of a solid
refusal_of : (s : Solid) (v : Triple) → refusal_held (scaled_solid s v) ≡ solid_refusal s v
unfolding scaled_box scaled_cut
refusal_of (Box c) v = go (takes_box c v) _
  where
    go : (t : Bool) (b : ScaledBox) → refusal_held (option_map scaled.Box (cond t (Some b) None)) ≡ unless t bad_proxy
    go true b = refl
    go false b = refl
refusal_of (Cut p) v = go (takes_cut p v) _
  where
    go : (t : Bool) (c : ScaledCut) → refusal_held (option_map scaled.Cut (cond t (Some c) None)) ≡ unless t bad_proxy
    go true c = refl
    go false c = refl

six_of : (s : Solid) (v : Triple) → six_held (scaled_solid s v) ≡ solid_box_count s v
unfolding scaled_box scaled_cut
six_of (Box c) v = go (takes_box c v) _
  where
    go : (t : Bool) (b : ScaledBox) → six_held (option_map scaled.Box (cond t (Some b) None)) ≡ cond t 6 0
    go true b = refl
    go false b = refl
six_of (Cut p) v = go (takes_cut p v) _
  where
    go : (t : Bool) (c : ScaledCut) → six_held (option_map scaled.Cut (cond t (Some c) None)) ≡ 0
    go true c = refl
    go false c = refl

one_of : (s : Solid) (v : Triple) → one_held (scaled_solid s v) ≡ solid_cut_count s v
unfolding scaled_box scaled_cut
one_of (Box c) v = go (takes_box c v) _
  where
    go : (t : Bool) (b : ScaledBox) → one_held (option_map scaled.Box (cond t (Some b) None)) ≡ 0
    go true b = refl
    go false b = refl
one_of (Cut p) v = go (takes_cut p v) _
  where
    go : (t : Bool) (c : ScaledCut) → one_held (option_map scaled.Cut (cond t (Some c) None)) ≡ cond t 1 0
    go true c = refl
    go false c = refl

rows_of : (s : Solid) (v : Triple) → rows_held (scaled_solid s v) ≡ solid_box_rows s v
unfolding scaled_box scaled_cut rows_of_box
rows_of (Box c) v = go (takes_box c v) _
  where
    go : (t : Bool) (b : ScaledBox) → rows_held (option_map scaled.Box (cond t (Some b) None)) ≡ cond t (rows_between b.near b.far b.displacement) zero_rows
    go true b = refl
    go false b = refl
rows_of (Cut p) v = go (takes_cut p v) _
  where
    go : (t : Bool) (c : ScaledCut) → rows_held (option_map scaled.Cut (cond t (Some c) None)) ≡ zero_rows
    go true c = refl
    go false c = refl

row_of : (s : Solid) (v : Triple) → row_held (scaled_solid s v) ≡ solid_cut_row s v
unfolding scaled_box scaled_cut row_of_cut
row_of (Box c) v = go (takes_box c v) _
  where
    go : (t : Bool) (b : ScaledBox) → row_held (option_map scaled.Box (cond t (Some b) None)) ≡ zero_row
    go true b = refl
    go false b = refl
row_of (Cut p) v = go (takes_cut p v) _
  where
    go : (t : Bool) (c : ScaledCut) → row_held (option_map scaled.Cut (cond t (Some c) None)) ≡ cond t (row_across c.normal c.offset c.displacement) zero_row
    go true c = refl
    go false c = refl

-- and of a proxy
module _ (p : Proxy) where
  pub refused_proxy : scaled_proxy p ≡ None → bad_proxy ≡ proxy_refusal p
  unfolding scaled_proxy
  refused_proxy h = rw h at (refusal_of p.solid p.displacement)

  pub accepted_proxy : (x : Scaled) → scaled_proxy p ≡ Some x → 0 ≡ proxy_refusal p
  unfolding scaled_proxy
  accepted_proxy x h = rw h at (refusal_of p.solid p.displacement)

  pub six_box : (x : ScaledBox) → scaled_proxy p ≡ Some (scaled.Box x) → 6 ≡ box_row_count p
  unfolding scaled_proxy
  six_box x h = rw h at (six_of p.solid p.displacement)

  pub six_cut : (x : ScaledCut) → scaled_proxy p ≡ Some (scaled.Cut x) → 0 ≡ box_row_count p
  unfolding scaled_proxy
  six_cut x h = rw h at (six_of p.solid p.displacement)

  pub six_none : scaled_proxy p ≡ None → 0 ≡ box_row_count p
  unfolding scaled_proxy
  six_none h = rw h at (six_of p.solid p.displacement)

  pub rows_box : (x : ScaledBox) → scaled_proxy p ≡ Some (scaled.Box x) → rows_between x.near x.far x.displacement ≡ box_rows p
  unfolding scaled_proxy
  rows_box x h = rw h at (rows_of p.solid p.displacement)

  pub rows_cut : (x : ScaledCut) → scaled_proxy p ≡ Some (scaled.Cut x) → zero_rows ≡ box_rows p
  unfolding scaled_proxy
  rows_cut x h = rw h at (rows_of p.solid p.displacement)

  pub rows_none : scaled_proxy p ≡ None → zero_rows ≡ box_rows p
  unfolding scaled_proxy
  rows_none h = rw h at (rows_of p.solid p.displacement)

  pub one_cut : (x : ScaledCut) → scaled_proxy p ≡ Some (scaled.Cut x) → 1 ≡ cut_row_count p
  unfolding scaled_proxy
  one_cut x h = rw h at (one_of p.solid p.displacement)

  pub one_box : (x : ScaledBox) → scaled_proxy p ≡ Some (scaled.Box x) → 0 ≡ cut_row_count p
  unfolding scaled_proxy
  one_box x h = rw h at (one_of p.solid p.displacement)

  pub one_none : scaled_proxy p ≡ None → 0 ≡ cut_row_count p
  unfolding scaled_proxy
  one_none h = rw h at (one_of p.solid p.displacement)

  pub row_box : (x : ScaledBox) → scaled_proxy p ≡ Some (scaled.Box x) → zero_row ≡ cut_row p
  unfolding scaled_proxy
  row_box x h = rw h at (row_of p.solid p.displacement)

  pub row_none : scaled_proxy p ≡ None → zero_row ≡ cut_row p
  unfolding scaled_proxy
  row_none h = rw h at (row_of p.solid p.displacement)

-- a Box and a Cut that are held keep the limits
box_held : (o : Option ScaledBox) (b : ScaledBox) → option_map scaled.Box o ≡ Some (scaled.Box b) → o ≡ Some b
box_held None b e = absurd (cc)
box_held (Some x) b e = cc

cut_held : (o : Option ScaledCut) (b : ScaledCut) → option_map scaled.Cut o ≡ Some (scaled.Cut b) → o ≡ Some b
cut_held None b e = absurd (cc)
cut_held (Some x) b e = cc

no_box : (o : Option ScaledCut) (b : ScaledBox) → option_map scaled.Cut o ≡ Some (scaled.Box b) → ⊥
no_box None b e = cc
no_box (Some x) b e = cc

no_cut : (o : Option ScaledBox) (b : ScaledCut) → option_map scaled.Box o ≡ Some (scaled.Cut b) → ⊥
no_cut None b e = cc
no_cut (Some x) b e = cc

module _ (p : Proxy) (b : ScaledBox) (h : scaled_proxy p ≡ Some (scaled.Box b)) where
  pub box_keeps : Limited offset_limit b.near × Limited offset_limit b.far × Limited coefficient_limit b.displacement
  unfolding scaled_proxy
  box_keeps = by p.solid h
    where
      by : (s : Solid) → scaled_solid s p.displacement ≡ Some (scaled.Box b)
          → Limited offset_limit b.near × Limited offset_limit b.far × Limited coefficient_limit b.displacement
      by (Box c) e =
          let l = box_limited c p.displacement b (box_held _ b e) in (wider (lit≤ tt) l.0, wider (lit≤ tt) l.1, wider (lit≤ tt) l.2)
      by (Cut a) e = absurd (no_box _ b e)

-- an offset is passed on by its bits
module _ (p : Proxy) (b : ScaledCut) (h : scaled_proxy p ≡ Some (scaled.Cut b)) where
  pub cut_keeps : Limited normal_limit b.normal × (nat_abs b.offset ≤ corner_limit) × Limited normal_limit b.displacement
  unfolding scaled_proxy
  cut_keeps = by p.solid h
    where
      by : (s : Solid) → scaled_solid s p.displacement ≡ Some (scaled.Cut b)
          → Limited normal_limit b.normal × (nat_abs b.offset ≤ corner_limit) × Limited normal_limit b.displacement
      by (Box c) e = absurd (no_cut _ b e)
      by (Cut a) e = cut_limited a p.displacement b (cut_held _ b e)

  pub offset_keeps : nat_abs (back b.offset) ≤ corner_limit
  offset_keeps = rw (number b.offset cut_keeps.1).same cut_keeps.1

  pub row_cut : row_across b.normal (back b.offset) b.displacement ≡ cut_row p
  unfolding scaled_proxy
  row_cut = rw (number b.offset cut_keeps.1).same (rw h at (row_of p.solid p.displacement))

pub ruleset check_laws = (refused_proxy, accepted_proxy)

pub ruleset box_laws = (six_box, six_cut, six_none, rows_box, rows_cut, rows_none)

pub ruleset cut_laws = (one_cut, one_box, one_none, row_cut, row_box, row_none, offset_keeps)
