-- What stands next while nodes are read in postfix order over the shapes pending: a leaf that is pushed, or an operator that joins the two last shapes; the
-- code of the node tells which.
use Prim.Native.Nat.{ℕ, suc, ◌+◌, ◌*◌, ◌≤◌, ◌<◌}
use native.Mathlib.Omega.{arith}
use mathlib.Core.Path.{◌≡◌, refl, sym, ap, ◌∙◌}
use mathlib.Core.Bool.{Bool, true, false, false≢true}
use mathlib.Core.List.{List, ◌∷◌}
use lib.IntN.{ℤ, nat_abs}
use lib.ListN.{length}
use Rattle.universe.specs.declared.Block.{Block}
use Rattle.bintree.specs.declared.Colour.TheVariants.{White, Black}
use Rattle.csg.specs.Halfspace.{most_rows, row_count}
use Rattle.csg.specs.Ball.{most_balls, ball_count}
use Rattle.csg.specs.Surfaces.{Surfaces, halfspace, ball, Named, named, halfspace_named, ball_named}
use Rattle.csg.specs.Tree.{Plain}
use Rattle.pruned.specs.Nodes.{Node, joining, join_plain, node_code, is_join, number_at, NodeAt, Holds, node, LeafOf, side_leaf, colour_leaf}
use Rattle.pruned.specs.Nodes.{CodeAt, most_shapes}
use Rattle.pruned.proofs.Reading.{Reads, ended, pushed, joined, leaf_code, join_code_lem}

pub record LeafNext (surfaces : Surfaces) (b : Block) (work : List ℤ) (i stop : ℕ) (shapes finals : List Plain) : Type 0 where
  pub tree : Plain
  pub leaf : Node
  pub later : List Node
  pub stands : LeafOf (named surfaces) tree leaf
  pub room : length shapes < most_shapes
  pub at : NodeAt surfaces b work i leaf
  pub reads : Reads (named surfaces) later (tree ∷ shapes) finals
  pub coming : Holds surfaces b work (suc i) later
  pub onward : suc i + length later ≡ stop

pub record JoinNext (surfaces : Surfaces) (b : Block) (work : List ℤ) (i stop : ℕ) (shapes finals : List Plain) : Type 0 where
  pub meet : Bool
  pub first : Plain
  pub second : Plain
  pub under : List Plain
  pub later : List Node
  pub shapes_are : shapes ≡ second ∷ first ∷ under
  pub at : NodeAt surfaces b work i (joining meet)
  pub reads : Reads (named surfaces) later (join_plain meet first second ∷ under) finals
  pub coming : Holds surfaces b work (suc i) later
  pub onward : suc i + length later ≡ stop

-- the codes of leaves are small
module _ (surfaces : Surfaces) (few_rows : row_count surfaces.rows ≤ most_rows) (few_balls : ball_count surfaces.balls ≤ most_balls) where
  pub small_code : {t : Plain} {n : Node} → LeafOf (named surfaces) t n → node_code n < 2048
  small_code (colour_leaf {c = White}) = omega arith
  small_code (colour_leaf {c = Black}) = omega arith
  small_code (side_leaf {turned = true} {s = halfspace k} (halfspace_named m)) = omega (arith, m, few_rows)
  small_code (side_leaf {turned = false} {s = halfspace k} (halfspace_named m)) = omega (arith, m, few_rows)
  small_code (side_leaf {turned = true} {s = ball k} (ball_named m)) = omega (arith, m, few_balls)
  small_code (side_leaf {turned = false} {s = ball k} (ball_named m)) = omega (arith, m, few_balls)

module _ {surfaces : Surfaces} {b : Block} {work : List ℤ} {i stop : ℕ} {rest : List Node} {shapes finals : List Plain}
    (reads : Reads (named surfaces) rest shapes finals) (coming : Holds surfaces b work i rest) (onward : i + length rest ≡ stop) (h : i < stop) where
  pub code_next : row_count surfaces.rows ≤ most_rows → ball_count surfaces.balls ≤ most_balls → 3 * i + 2 < length work → CodeAt work i
  code_next few_rows few_balls inside = by reads coming onward
    where
      by : {ns : List Node} {ps fs : List Plain} → Reads (named surfaces) ns ps fs → Holds surfaces b work i ns → i + length ns ≡ stop → CodeAt work i
      by ended c e = absurd (omega arith)
      by (pushed {n = n} l f r) (node x hs) e = record { code = node_code n; small = small_code surfaces few_rows few_balls l; inside = inside; is = x.code }
      by (joined {meet = meet} r) (node x hs) e =
          record { code = node_code (joining meet); small = (join_code_lem meet).2; inside = inside; is = x.code }

  module _ {code : ℕ} (read : code ≡ nat_abs (number_at work (3 * i))) where
    pub leaf_next : is_join code ≡ false → LeafNext surfaces b work i stop shapes finals
    leaf_next o = by reads coming onward refl
      where
        by : {ns : List Node} {ps : List Plain} → Reads (named surfaces) ns ps finals → Holds surfaces b work i ns → i + length ns ≡ stop → shapes ≡ ps →
            LeafNext surfaces b work i stop shapes finals
        by ended c e s = absurd (omega arith)
        by (pushed {t = t} {n = n} {ns = ns} l f r) (node x hs) e s =
            record {
              tree = t;
              leaf = n;
              later = ns;
              stands = l;
              room = rw s f;
              at = x;
              reads = rw s r;
              coming = hs;
              onward = omega arith;
            }
        by (joined {meet = meet} r) (node x hs) e s =
            absurd (false≢true (sym o ∙ ap is_join read ∙ ap (λ (z : ℤ). is_join (nat_abs z)) x.code ∙ (join_code_lem meet).0))

    pub join_next : is_join code ≡ true → JoinNext surfaces b work i stop shapes finals
    join_next o = by reads coming onward refl
      where
        by : {ns : List Node} {ps : List Plain} → Reads (named surfaces) ns ps finals → Holds surfaces b work i ns → i + length ns ≡ stop → shapes ≡ ps →
            JoinNext surfaces b work i stop shapes finals
        by ended c e s = absurd (omega arith)
        by (pushed l f r) (node x hs) e s =
            absurd (false≢true (sym (leaf_code l) ∙ sym (ap is_join read ∙ ap (λ (z : ℤ). is_join (nat_abs z)) x.code) ∙ o))
        by (joined {meet = meet} {ns = ns} {p = p} {q = q} {ps = ps} r) (node x hs) e s =
            record {
              meet = meet;
              first = p;
              second = q;
              under = ps;
              later = ns;
              shapes_are = s;
              at = x;
              reads = r;
              coming = hs;
              onward = omega arith;
            }

-- at the end the trees themselves are pending
pub all_read : {names : Named} {i stop : ℕ} {rest : List Node} {shapes finals : List Plain} → Reads names rest shapes finals →
    i + length rest ≡ stop → stop ≤ i → shapes ≡ finals
all_read ended e h = refl
all_read (pushed l f r) e h = absurd (omega arith)
all_read (joined r) e h = absurd (omega arith)
