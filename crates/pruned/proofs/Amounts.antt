-- What the values of a row move by at each level: a loop from a block down halves its sides, and each amount is the coefficient along the level's axis times
-- half the side there, which is a power of two.
use Prim.Native.Nat.{ℕ, suc, ◌+◌, ◌*◌, ◌-◌, ◌/◌, ◌^◌, ◌≤◌, ◌<◌}
use mathlib.Core.Path.{◌≡◌, ap, ◌∙◌, subst}
use mathlib.Core.List.{List}
use native.Mathlib.Omega.{arith}
use native.Mathlib.Decide.{ℕ_discrete}
use lib.Count.{count_trailing_zeros}
use lib.IntN.{ℤ, pos, ◌*ℤ◌}
use lib.ListN.{length, get_or, set, length-set}
use lib.Seq.{get_or-set_same, get_or-set_other}
use Rattle.universe.specs.declared.Universe.{Universe}
use Rattle.universe.specs.Universe.{most_axes, most_levels, longest_side, levels, axis_at, block_side}
use Rattle.universe.proofs.Universes.{accepted, levels_few}
use Rattle.csg.specs.Halfspace.{Halfspace, row_at}
use Rattle.lemmas.proofs.Machine.{near}
use Rattle.convert.specs.Small.{SmallCoefficient, SmallPlace}
use Rattle.convert.specs.Blocks.{Standing}
use Rattle.convert.proofs.Blocks.{axis_is, axis_few, half_is, lower_standing}
use Rattle.pruned.specs.Nodes.{number_at}
use Rattle.pruned.specs.Alone.{Steps, StepsJob}
use Rattle.pruned.proofs.Doublings.{times_few, power_is}
use Rattle.pruned.proofs.Moving.{held, amount_small}

-- the amounts of the levels from n on are set, and the sides are those of a block with n levels left
pub record Filled (u : Universe) (h : Halfspace) (low : List ℕ) (n left : ℕ) (steps : List ℤ) (sides : List ℕ) : Type 0 where
  pub standing : Standing u n low sides
  pub set_steps : Steps u h n left steps

module _ {rows : List ℤ} {row : ℕ} {table side : List ℕ} {left : ℕ} (job : StepsJob rows row table side left) where
  abbrev u : Universe
  u = job.universe

  abbrev h : Halfspace
  h = row_at rows row

  module _ {steps : List ℤ} {sides : List ℕ} {n : ℕ} (f : Filled u h job.low n left steps sides) (some : 0 < n) where
    abbrev axis : ℕ
    axis = get_or table (n - 1) 0

    abbrev half : ℕ
    half = get_or sides axis 0 / 2

    n_suc : n ≡ suc (n - 1)
    n_suc = omega arith

    standing' : Standing u (suc (n - 1)) job.low sides
    standing' = subst (λ (k : ℕ). Standing u k job.low sides) n_suc f.standing

    at_level : axis ≡ axis_at u (levels u - suc (n - 1))
    at_level = axis_is u job.accepted job.table_is (n - 1) (omega (arith, f.standing.above))

    pub place_in : n - 1 < most_levels
    place_in = omega (arith, f.standing.above, levels_few u (accepted u job.accepted))

    pub axis_in : axis < most_axes
    axis_in = axis_few u job.accepted (n - 1) job.low sides standing' axis at_level

    pub row_in : 5 * row + 1 + axis < length rows
    row_in = omega (arith, job.named, axis_in)

    coefficient_is : get_or rows (5 * row + 1 + axis) (pos 0) ≡ h.coefficient axis
    coefficient_is = let e : 5 * row + 1 + axis ≡ 5 * row + suc axis = omega arith in ap (λ (k : ℕ). get_or rows k (pos 0)) e

    abbrev coefficient : ℤ
    coefficient = get_or rows (5 * row + 1 + axis) (pos 0)

    small : SmallCoefficient coefficient
    small = rw coefficient_is (job.small.coefficient axis axis_in)

    coefficient_held : held coefficient ≡ coefficient
    coefficient_held = (near (record { most = small.most }) tt).same

    pub half_few : half ≤ longest_side
    half_few = omega (arith, (f.standing.inside axis).most)

    pub place_fits : (5 * row + 1 + axis) * 8 < 2 ^ 64
    place_fits = omega (arith, job.few, job.named, axis_in)

    half_side_lem : half ≡ block_side u (levels u - (n - 1)) axis
    half_side_lem = half_is u job.accepted (n - 1) job.low sides standing' axis at_level

    module _ {times : ℕ} (told : times ≡ count_trailing_zeros 64 half) where
      few : times < 64
      few = times_few u (levels u - (n - 1)) axis half_side_lem half_few told

      length_is : 2 ^ times ≡ half
      length_is = power_is u (levels u - (n - 1)) axis half_side_lem half_few told

      pub amount_asks : SmallCoefficient (held coefficient) × ((times < 64) × SmallPlace (2 ^ times))
      amount_asks = (rw coefficient_held small, (few, record { most = omega (arith, length_is, half_few) }))

      module _ {x : ℤ} (e : x ≡ held coefficient *ℤ pos (2 ^ times)) where
        x_is : x ≡ coefficient *ℤ pos half
        x_is = e ∙ ap (λ (z : ℤ). z *ℤ pos (2 ^ times)) coefficient_held ∙ ap (λ (k : ℕ). coefficient *ℤ pos k) length_is

        amount_is : held x ≡ h.coefficient axis *ℤ pos (block_side u (levels u - (n - 1)) axis)
        amount_is =
            ap held x_is ∙ (near (record { most = (amount_small small (record { most = half_few })).most }) tt).same
            ∙ ap (λ (z : ℤ). z *ℤ pos half) coefficient_is
            ∙ ap (λ (k : ℕ). h.coefficient axis *ℤ pos k) half_side_lem

        set_amount : (k : ℕ) → n - 1 ≤ k → k < left → Dec (k ≡ n - 1) → let along = axis_at u (levels u - suc k) in
            number_at (set steps (n - 1) (held x)) k ≡ h.coefficient along *ℤ pos (block_side u (levels u - k) along)
        set_amount k p q (yes d) =
            rw (d, ← at_level) (get_or-set_same steps (n - 1) (held x) (pos 0) (omega (arith, place_in, f.set_steps.places)) ∙ amount_is)
        set_amount k p q (no d) = get_or-set_other steps (n - 1) k (held x) (pos 0) d ∙ f.set_steps.amount k (omega arith) q

        pub filled_next : Filled u h job.low (n - 1) left (set steps (n - 1) (held x)) (set sides axis half)
        filled_next =
            record {
              standing = lower_standing u job.accepted (n - 1) job.low sides standing' axis at_level;
              set_steps = record {
                places = length-set steps (n - 1) (held x) ∙ f.set_steps.places;
                amount = λ k p q. set_amount k p q (ℕ_discrete k (n - 1));
              };
            }
