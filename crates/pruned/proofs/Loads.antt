-- A tree's words read into nodes: the shapes pending stand one after the other as the nodes of plain trees, MINUS turning over the nodes of the later one. At
-- the end they are those of the tree that the words make, which can be carried: its surfaces are there, and few shapes are pending.
use Prim.Native.Nat.{ℕ, suc, ◌+◌, ◌≤◌, ◌<◌, max}
use mathlib.Core.Path.{◌≡◌, refl, sym, ap, ap₂, ◌∙◌}
use mathlib.Core.Bool.{true, false}
use mathlib.Core.List.{List, [], ◌∷◌, ◌++◌}
use native.Mathlib.Omega.{arith}
use lib.ListN.{length}
use Rattle.csg.specs.Surfaces.{Named}
use Rattle.csg.specs.Tree.{Leaf, white, black, surface, Operator, union, intersection, minus, Tree, leaf, node}
use Rattle.csg.specs.Tree.{Plain, colour, side, union_of, intersection_of, as_it_is, plain, reversal}
use Rattle.csg.specs.Words.{most_pending, leaf_of, operator_of, fold, tree_refusal, tree_of, AllNamed, surface_named, node_named}
use Rattle.csg.proofs.Tree.{turned, reversal_turned}
use Rattle.csg.proofs.Words.{Reads, ended, pushed, joined, reads, accepted_run, tree_named}
use Rattle.bintree.specs.declared.Colour.TheVariants.{White, Black}
use Rattle.pruned.specs.Left.{nodes, depth, all_nodes}
use Rattle.pruned.specs.Nodes.{Node, joining, postfix, SidesNamed, colour_named, side_named, union_named, intersection_named, Carriable}
use Rattle.pruned.specs.Loading.{turn_node, turn_nodes}

-- ---- the meaning of words as plain trees
abbrev pub plain_leaf : Leaf → Plain
plain_leaf white = colour White
plain_leaf black = colour Black
plain_leaf (surface s) = side as_it_is s

abbrev pub plain_node : Operator → Plain → Plain → Plain
plain_node union p q = union_of p q
plain_node intersection p q = intersection_of p q
plain_node minus p q = intersection_of p (turned q)

pub plain_fold : (t : Tree) → fold plain_leaf plain_node t ≡ plain t
unfolding fold plain
plain_fold (leaf white) = refl
plain_fold (leaf black) = refl
plain_fold (leaf (surface s)) = refl
plain_fold (node union a b) = ap₂ union_of (plain_fold a) (plain_fold b)
plain_fold (node intersection a b) = ap₂ intersection_of (plain_fold a) (plain_fold b)
plain_fold (node minus a b) = ap₂ intersection_of (plain_fold a) (ap turned (plain_fold b) ∙ sym (reversal_turned b))

-- ---- nodes of a tree turned over
turn_joined : (ns ms : List Node) → turn_nodes (ns ++ ms) ≡ turn_nodes ns ++ turn_nodes ms
unfolding turn_nodes
turn_joined [] ms = refl
turn_joined (n ∷ ns) ms = ap (λ (l : List Node). turn_node n ∷ l) (turn_joined ns ms)

pub turn_postfix : (p : Plain) → turn_nodes (postfix p) ≡ postfix (turned p)
unfolding turn_nodes postfix turned
turn_postfix (colour c) = refl
turn_postfix (side flag s) = refl
turn_postfix (union_of p q) =
    turn_joined (postfix p) (postfix q ++ (joining false ∷ []))
    ∙ ap₂ ◌++◌ (turn_postfix p) (turn_joined (postfix q) (joining false ∷ []) ∙ ap (λ (l : List Node). l ++ (joining true ∷ [])) (turn_postfix q))
turn_postfix (intersection_of p q) =
    turn_joined (postfix p) (postfix q ++ (joining true ∷ []))
    ∙ ap₂ ◌++◌ (turn_postfix p) (turn_joined (postfix q) (joining true ∷ []) ∙ ap (λ (l : List Node). l ++ (joining false ∷ [])) (turn_postfix q))

-- ---- a tree that words make can be carried
mutual
  unfolding plain reversal

  plain_named : {names : Named} (t : Tree) → AllNamed names t → SidesNamed names (plain t)
  plain_named (leaf white) n = colour_named
  plain_named (leaf black) n = colour_named
  plain_named (leaf (surface s)) (surface_named n) = side_named n
  plain_named (node union a b) (node_named n m) = union_named (plain_named a n) (plain_named b m)
  plain_named (node intersection a b) (node_named n m) = intersection_named (plain_named a n) (plain_named b m)
  plain_named (node minus a b) (node_named n m) = intersection_named (plain_named a n) (reversal_named b m)

  reversal_named : {names : Named} (t : Tree) → AllNamed names t → SidesNamed names (reversal t)
  reversal_named (leaf white) n = colour_named
  reversal_named (leaf black) n = colour_named
  reversal_named (leaf (surface s)) (surface_named n) = side_named n
  reversal_named (node union a b) (node_named n m) = intersection_named (reversal_named a n) (reversal_named b m)
  reversal_named (node intersection a b) (node_named n m) = union_named (reversal_named a n) (reversal_named b m)
  reversal_named (node minus a b) (node_named n m) = union_named (reversal_named a n) (plain_named b m)

turned_depth : (p : Plain) → depth (turned p) ≡ depth p
unfolding depth turned
turned_depth (colour c) = refl
turned_depth (side flag s) = refl
turned_depth (union_of p q) = rw (turned_depth p, turned_depth q)
turned_depth (intersection_of p q) = rw (turned_depth p, turned_depth q)

-- what is pending is shallow: each shape together with those beneath it
abbrev Shallow : List Plain → Type 0
Shallow [] = Unit {0}
Shallow (p ∷ ps) = (depth p + length ps ≤ most_pending) × Shallow ps

leaf_depth : (l : Leaf) → depth (plain_leaf l) ≡ 1
unfolding depth
leaf_depth white = refl
leaf_depth black = refl
leaf_depth (surface s) = refl

node_depth : (o : Operator) (p q : Plain) → depth (plain_node o p q) ≡ max (depth p) (suc (depth q))
unfolding depth
node_depth union p q = refl
node_depth intersection p q = refl
node_depth minus p q = rw (turned_depth q)

shallow_push : (l : Leaf) (ps : List Plain) → length ps < most_pending → Shallow ps → Shallow (plain_leaf l ∷ ps)
shallow_push l ps h s = (omega (arith, leaf_depth l), s)

shallow_join : (o : Operator) (p q : Plain) (ps : List Plain) → Shallow (q ∷ p ∷ ps) → Shallow (plain_node o p q ∷ ps)
shallow_join o p q ps s = (omega (arith, node_depth o p q, s.0, s.1.0), s.1.1)

shallow_end : {names : Named} {ws : List ℕ} {ps : List Plain} {a : Plain} → Reads plain_leaf plain_node names ws ps a → Shallow ps → depth a ≤ most_pending
shallow_end ended s = omega (arith, s.0)
shallow_end (pushed {w = w} {pending = ps} o l g r) s = shallow_end r (shallow_push (leaf_of w) ps g s)
shallow_end (joined {w = w} {pending = ps} {a = p} {b = q} o r) s = shallow_end r (shallow_join (operator_of w) p q ps s)

pub words_carried : (names : Named) (ws : List ℕ) → tree_refusal names ws ≡ 0 → Carriable names (plain (tree_of names ws))
words_carried names ws e =
    record {
      sides = plain_named (tree_of names ws) (tree_named names ws e);
      shallow = rw (← plain_fold (tree_of names ws)) (shallow_end (reads ws [] _ (accepted_run names ws e plain_leaf plain_node)) tt);
    }

-- ---- a tree has a node for each of its words
turned_nodes : (p : Plain) → nodes (turned p) ≡ nodes p
unfolding nodes turned
turned_nodes (colour c) = refl
turned_nodes (side flag s) = refl
turned_nodes (union_of p q) = rw (turned_nodes p, turned_nodes q)
turned_nodes (intersection_of p q) = rw (turned_nodes p, turned_nodes q)

leaf_nodes : (l : Leaf) → nodes (plain_leaf l) ≡ 1
unfolding nodes
leaf_nodes white = refl
leaf_nodes black = refl
leaf_nodes (surface s) = refl

node_nodes : (o : Operator) (p q : Plain) → nodes (plain_node o p q) ≡ suc (nodes p + nodes q)
unfolding nodes
node_nodes union p q = refl
node_nodes intersection p q = refl
node_nodes minus p q = rw (turned_nodes q)

reads_nodes : {names : Named} {ws : List ℕ} {ps : List Plain} {a : Plain} → Reads plain_leaf plain_node names ws ps a → nodes a ≡ all_nodes ps + length ws
unfolding all_nodes
reads_nodes ended = omega arith
reads_nodes (pushed {w = w} o l g r) = omega (arith, reads_nodes r, leaf_nodes (leaf_of w))
reads_nodes (joined {w = w} {a = p} {b = q} o r) = omega (arith, reads_nodes r, node_nodes (operator_of w) p q)

pub words_nodes : (names : Named) (ws : List ℕ) → tree_refusal names ws ≡ 0 → nodes (plain (tree_of names ws)) ≡ length ws
unfolding all_nodes
words_nodes names ws e = rw (← plain_fold (tree_of names ws)) (omega (arith, reads_nodes (reads ws [] _ (accepted_run names ws e plain_leaf plain_node))))
