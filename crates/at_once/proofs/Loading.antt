-- The loop of loading codes: those of the shapes pending stand one after the other from the first place on, as many as words were read, as crate pruned tells
-- them. At the end they are those of the tree that the words make.
use Prim.Native.Nat.{ℕ, ◌+◌, ◌*◌, ◌-◌, ◌≤◌, ◌<◌}
use native.Mathlib.Omega.{arith}
use mathlib.Core.Path.{◌≡◌, refl, sym, ap, ap₂, subst, ◌∙◌}
use mathlib.Core.Bool.{true, false}
use mathlib.Core.List.{List, [], ◌∷◌, ◌++◌, append_assoc}
use borrow.Author.Tests.{ne_eqb}
use lib.ListN.{length, get_or, drop, set, length-append, length-set}
use Rattle.csg.specs.Surfaces.{Named}
use Rattle.csg.specs.Tree.{Plain, plain}
use Rattle.csg.specs.Words.{most_pending, made, is_operator, operator_of, is_leaf, leaf_of, tree_of}
use Rattle.csg.proofs.Words.{next, Reads, reads, accepted_length, accepted_run, leaf_next, two_pending, join_next, left_one}
use Rattle.pruned.specs.Nodes.{Node, joining, postfix, SidesNamed, code_limit, most_shapes}
use Rattle.pruned.specs.Loading.{turn_nodes, SmallCodes, code_small, leaf_node, meets, turned_for}
use Rattle.pruned.proofs.Loads.{plain_leaf, plain_node, plain_fold}
use Rattle.pruned.proofs.Loadings.{leaf_code_is, leaf_postfix, leaf_sides, operator_is, node_postfix, operator_code, node_sides, small_codes, drop_end, rest}
use Rattle.pruned.proofs.Loadings.{turn_long, turned_long, loaded, starts_from, length_starts, AllSides}
use Rattle.pruned.proofs.Stacks.{stack_of, length_stack, stack_push, stack_last}
use Rattle.at_once.specs.Codes.{HoldsCodes, no_code, SameCodes}
use Rattle.at_once.specs.Loading.{TurnJob, TurnedCodes, JoinJob, JoinedCodes, LoadJob, LoadedCodes}
use Rattle.at_once.proofs.Rooms.{codes_same, codes_front, codes_behind, codes_join, codes_more, same_itself, same_stored}

-- ---- an operator's word
module _ {codes : List ℕ} {start at word : ℕ} (job : JoinJob codes start at word) where
  pub word_few : (2 ≤ word) × (word ≤ 4)
  word_few = operator_is word job.operator

  pub turning_asks : TurnJob codes start at
  turning_asks = record { nodes = job.nodes; small = job.small; holds = job.holds; ends = job.ends; inside = omega (arith, job.inside) }

  module _ (minus : word ≡ 4) {now : List ℕ} (t : TurnedCodes turning_asks now) where
    pub turned_inside : at < length now
    turned_inside = omega (arith, job.inside, t.below.long)

    pub joined_turned : JoinedCodes job (set now at 6)
    unfolding turning_asks
    joined_turned =
        record {
          holds = rw minus (codes_more (turn_nodes job.nodes) (joining true) t.holds
              (omega (arith, job.ends, turn_long job.nodes)) turned_inside refl);
          below = same_stored 6 t.below (omega (arith, job.ends));
        }

  pub joined_plain : (word ≡ 4 → ⊥) → JoinedCodes job (set codes at (2 * word))
  joined_plain other =
      let c = operator_code word word_few.0 (omega (arith, other, word_few.1)) in
      record {
        holds = rw (ne_eqb word 4 other) (codes_more job.nodes (joining (meets word)) job.holds (omega (arith, job.ends)) job.inside (sym c));
        below = same_stored (2 * word) same_itself (omega (arith, job.ends));
      }

-- ---- the loop
module _ {words codes : List ℕ} {from : ℕ} {starts₀ : List ℕ} where
  pub record Loads (job : LoadJob words codes from starts₀) (now starts : List ℕ) (pending i : ℕ) : Type 0 where
    pub shapes : List Plain
    pub reads : Reads plain_leaf plain_node job.names (drop i words) shapes (plain (tree_of job.names words))
    pub sides_named : AllSides job.names shapes
    pub few : pending ≤ most_pending
    pub most : i ≤ length words
    pub starts_long : length starts ≡ most_shapes
    pub starts_are : stack_of starts pending ≡ starts_from from shapes
    pub count_is : i ≡ length (loaded shapes)
    pub done : HoldsCodes now from (loaded shapes)
    pub below : SameCodes from codes now

  module _ (job : LoadJob words codes from starts₀) where
    abbrev names : Named
    names = job.names

    abbrev tree : Plain
    tree = plain (tree_of names words)

    pub loads_start : Loads job codes starts₀ 0 0
    loads_start =
        record {
          shapes = [];
          reads = reads words [] tree (accepted_run names words job.accepted plain_leaf plain_node ∙ ap made (plain_fold (tree_of names words)));
          sides_named = tt;
          few = omega arith;
          most = omega arith;
          starts_long = job.starts_long;
          starts_are = refl;
          count_is = refl;
          done = no_code;
          below = same_itself;
        }

    module _ {now starts : List ℕ} {pending i : ℕ} (g : Loads job now starts pending i) where
      pending_is : pending ≡ length g.shapes
      pending_is = sym (length_stack starts pending) ∙ ap length g.starts_are ∙ length_starts from g.shapes

      module _ (h : i < length words) where
        abbrev word : ℕ
        word = get_or words i 0

        reads_on : Reads plain_leaf plain_node names (word ∷ drop (i + 1) words) g.shapes tree
        reads_on = rw (next words i h) at g.reads

        pub place_few : i < 255
        place_few = omega (arith, accepted_length names words job.accepted)

        pub inside : from + i < length now
        inside = omega (arith, job.inside, g.below.long)

        -- a leaf
        module _ (o : is_operator word ≡ false) where
          abbrev l : (is_leaf names word ≡ true) × (length g.shapes < most_pending)
              × Reads plain_leaf plain_node names (drop (i + 1) words) (plain_leaf (leaf_of word) ∷ g.shapes) tree
          l = leaf_next reads_on o

          pub leaf_room : pending < most_pending
          leaf_room = omega (arith, pending_is, l.1)

          abbrev n : Node
          n = leaf_node (leaf_of word)

          pub word_small : 2 * word < code_limit
          word_small =
              let small = small_codes job.few_rows job.few_balls (plain_leaf (leaf_of word)) (leaf_sides names word l.0) in
              by (rw (leaf_postfix (leaf_of word)) at small)
            where
              by : SmallCodes (n ∷ []) → 2 * word < code_limit
              by (code_small a s) = omega (arith, a, leaf_code_is names word l.0)

          pub loads_leaf : Loads job (set now (from + i) (2 * word)) (set starts pending (from + i)) (pending + 1) (i + 1)
          loads_leaf =
              let p : from + i ≡ from + length (loaded g.shapes) = ap (λ (k : ℕ). from + k) g.count_is in
              record {
                shapes = plain_leaf (leaf_of word) ∷ g.shapes;
                reads = l.2;
                sides_named = (leaf_sides names word l.0, g.sides_named);
                few = omega (arith, leaf_room);
                most = omega arith;
                starts_long = length-set starts pending (from + i) ∙ g.starts_long;
                starts_are = stack_push starts pending (from + i) (omega (arith, leaf_room, g.starts_long)) ∙ ap₂ ◌∷◌ p g.starts_are;
                count_is = omega (
                  arith,
                  g.count_is,
                  length-append (loaded g.shapes) (postfix (plain_leaf (leaf_of word))),
                  ap length (leaf_postfix (leaf_of word)),
                );
                done = rw (leaf_postfix (leaf_of word)) (codes_more (loaded g.shapes) n g.done p inside (sym (leaf_code_is names word l.0)));
                below = same_stored (2 * word) g.below (omega arith);
              }

        -- an operator
        module _ (o : is_operator word ≡ true) where
          pub record JoinNext : Type 0 where
            pub first : Plain
            pub second : Plain
            pub under : List Plain
            pub shapes_are : g.shapes ≡ second ∷ first ∷ under
            pub reads : Reads plain_leaf plain_node names (drop (i + 1) words) (plain_node (operator_of word) first second ∷ under) tree

          join_ahead : JoinNext
          join_ahead = by g.shapes refl (two_pending reads_on o)
            where
              by : (ps : List Plain) → g.shapes ≡ ps → 2 ≤ length g.shapes → JoinNext
              by [] e m = absurd (omega (arith, ap length e))
              by (q ∷ []) e m = absurd (omega (arith, ap length e))
              by (q ∷ p ∷ ps) e m =
                  record {
                    first = p;
                    second = q;
                    under = ps;
                    shapes_are = e;
                    reads = join_next (subst (λ (l : List Plain). Reads plain_leaf plain_node names (word ∷ drop (i + 1) words) l tree) e reads_on) o;
                  }

          abbrev a : JoinNext
          a = join_ahead

          abbrev front : List Node
          front = loaded (a.first ∷ a.under)

          pub join_room : (2 ≤ pending) × (pending ≤ most_pending)
          join_room = (omega (arith, pending_is, ap length a.shapes_are), g.few)

          starts_last : get_or starts (pending - 1) 0 ∷ stack_of starts (pending - 1) ≡ starts_from from (a.second ∷ a.first ∷ a.under)
          starts_last = sym (stack_last starts pending (omega (arith, join_room.0))) ∙ g.starts_are ∙ ap (starts_from from) a.shapes_are

          start_is : get_or starts (pending - 1) 0 ≡ from + length front
          start_is = ap (λ (l : List ℕ). get_or l 0 0) starts_last

          stood : HoldsCodes now from (front ++ postfix a.second)
          stood = subst (λ (l : List Plain). HoldsCodes now from (loaded l)) a.shapes_are g.done

          count_parts : i ≡ length front + length (postfix a.second)
          count_parts = g.count_is ∙ ap (λ (l : List Plain). length (loaded l)) a.shapes_are ∙ length-append front (postfix a.second)

          named_two : SidesNamed names a.second × (SidesNamed names a.first × AllSides names a.under)
          named_two = subst (AllSides names) a.shapes_are g.sides_named

          pub joining_job : JoinJob now (get_or starts (pending - 1) 0) (from + i) word
          joining_job =
              record {
                nodes = postfix a.second;
                small = small_codes job.few_rows job.few_balls a.second named_two.0;
                holds = rw start_is (codes_behind front (postfix a.second) stood);
                ends = omega (arith, start_is, count_parts);
                operator = o;
                inside = inside;
              }

          pub loads_join : {after : List ℕ} → JoinedCodes joining_job after → Loads job after starts (pending - 1) (i + 1)
          unfolding joining_job
          loads_join {after} j =
              let later : List Node = turned_for word (postfix a.second) ++ (joining (meets word) ∷ []) in
              let nodes_are : front ++ later ≡ loaded (plain_node (operator_of word) a.first a.second ∷ a.under) =
              append_assoc (loaded a.under) (postfix a.first) later
              ∙ ap (λ (l : List Node). loaded a.under ++ l) (sym (node_postfix word o a.first a.second)) in
              let behind : HoldsCodes after (from + length front) later = rw start_is at j.holds in
              let kept : HoldsCodes after from front =
              codes_same (λ k p q. j.below.same k (omega (arith, start_is))) (codes_front front (postfix a.second) stood) in
              record {
                shapes = plain_node (operator_of word) a.first a.second ∷ a.under;
                reads = a.reads;
                sides_named = (node_sides (operator_of word) a.first a.second named_two.1.0 named_two.0, named_two.1.1);
                few = omega (arith, g.few);
                most = omega arith;
                starts_long = g.starts_long;
                starts_are = ap rest starts_last;
                count_is = omega (
                  arith,
                  count_parts,
                  ap length nodes_are,
                  length-append front later,
                  length-append (turned_for word (postfix a.second)) (joining (meets word) ∷ []),
                  turned_long word (postfix a.second),
                );
                done = rw (← nodes_are) (codes_join front later kept behind);
                below = record { same = λ k m. j.below.same k (omega (arith, start_is)) ∙ g.below.same k m; long = j.below.long ∙ g.below.long };
              }

      pub loads_end : length words ≤ i → LoadedCodes job now starts
      loads_end h =
          let none : drop i words ≡ [] = drop_end i words h in
          let alone : g.shapes ≡ tree ∷ [] = left_one g.reads none in
          record {
            holds = subst (λ (l : List Plain). HoldsCodes now from (loaded l)) alone g.done;
            counted = omega (arith, g.count_is, g.most, ap (λ (l : List Plain). length (loaded l)) alone);
            below = g.below;
            starts_long = g.starts_long;
          }
