-- The loop over the nodes of the trees: the shapes pending are held as trees, and the words pending are theirs.
use Prim.Native.Nat.{ℕ, suc, ◌+◌, ◌-◌, ◌≤◌, ◌<◌}
use native.Mathlib.Omega.{arith}
use native.Mathlib.Numerals.{add-one}
use mathlib.Core.Path.{◌≡◌, refl, sym, ap, ap₂, ◌∙◌}
use mathlib.Core.Bool.{Bool, true, false, false≢true}
use mathlib.Core.List.{List, [], ◌∷◌}
use lib.ListN.{length, get_or, set, length-set}
use Rattle.universe.specs.declared.Block.{Block}
use Rattle.bintree.specs.declared.Colour.{Colour}
use Rattle.bintree.specs.declared.Colour.TheVariants.{White, Black}
use Rattle.csg.specs.Surfaces.{Surfaces, named}
use Rattle.csg.specs.Tree.{Plain}
use Rattle.csg.specs.Marks.{intersection_colour, plain_colour}
use Rattle.pruned.specs.Left.{all_colour}
use Rattle.pruned.specs.Nodes.{Node, joining, join_plain, all_postfix, node_code, is_join, is_meet, OneOrTwo, one, two, LeafOf, most_shapes}
use Rattle.pruned.proofs.Reading.{Reads, ended, pushed, joined, leaf_code, join_code_lem, last_first, reads_all}
use Rattle.pruned.proofs.Stacks.{stack_of, length_stack, stack_push, stack_two, stack_joined}
use Rattle.masks.specs.Block.{block_mask}
use Rattle.masks.proofs.Block.{mask_agree}
use Rattle.masks.proofs.Trees.{union_mask, intersection_mask}
use Rattle.at_once.specs.Codes.{HoldsCodes, code}
use Rattle.at_once.specs.Words.{WordBlock, word_block, LeafWord, TreesWord, joined_word, whole_word}

-- ---- the words of trees pending, whatever they are
abbrev pub words_of : (Plain → ℕ) → List Plain → List ℕ
words_of word [] = []
words_of word (p ∷ ps) = word p ∷ words_of word ps

length_words : (word : Plain → ℕ) (ps : List Plain) → length (words_of word ps) ≡ length ps
length_words word [] = refl
length_words word (p ∷ ps) = ap suc (length_words word ps)

-- operators join them
pub record Joins (word : Plain → ℕ) : Type 0 where
  pub join : (meet : Bool) (p q : Plain) → joined_word meet (word p) (word q) ≡ word (join_plain meet p q)

-- of one tree, or of two
abbrev pub all_word : (Plain → ℕ) → List Plain → ℕ
all_word word [] = 0
all_word word (p ∷ []) = word p
all_word word (p ∷ q ∷ ps) = joined_word true (word p) (word q)

-- ---- those of colours
module _ {surfaces : Surfaces} {axes : ℕ} {table lengths low : List ℕ} {left : ℕ} (w : WordBlock surfaces axes table lengths low left) where
  abbrev b : Block
  b = word_block w

  abbrev pub tree_word : Plain → ℕ
  tree_word p = block_mask (plain_colour surfaces w.universe p) left b

  join_words : (meet : Bool) (p q : Plain) → joined_word meet (tree_word p) (tree_word q) ≡ tree_word (join_plain meet p q)
  unfolding plain_colour
  join_words true p q = intersection_mask (plain_colour surfaces w.universe p) (plain_colour surfaces w.universe q) left b
  join_words false p q = union_mask (plain_colour surfaces w.universe p) (plain_colour surfaces w.universe q) left b

  pub word_joins : Joins tree_word
  word_joins = record { join = join_words }

  black_too : (c : Colour) → intersection_colour c Black ≡ c
  unfolding intersection_colour
  black_too White = refl
  black_too Black = refl

  one_word : (p : Plain) → tree_word p ≡ block_mask (all_colour surfaces w.universe (p ∷ [])) left b
  unfolding all_colour
  one_word p = mask_agree _ _ left b (λ i l. sym (black_too _))

  two_words : (p q : Plain) → joined_word true (tree_word p) (tree_word q) ≡ block_mask (all_colour surfaces w.universe (p ∷ q ∷ [])) left b
  unfolding all_colour
  two_words p q =
      intersection_mask (plain_colour surfaces w.universe p) (plain_colour surfaces w.universe q) left b
      ∙ mask_agree _ _ left b (λ i l. ap (intersection_colour _) (sym (black_too _)))

  pub all_word_lem : {ps : List Plain} → OneOrTwo (named surfaces) ps → all_word tree_word ps ≡ block_mask (all_colour surfaces w.universe ps) left b
  all_word_lem (one {p} c) = one_word p
  all_word_lem (two {p} {q} c d) = two_words p q

-- ---- the loop
module _ {surfaces : Surfaces} {axes : ℕ} {table lengths low : List ℕ} {left : ℕ} {codes : List ℕ} {from count : ℕ} where
  pub record Going (word : Plain → ℕ) (job : TreesWord surfaces axes table lengths low left codes from count) (words : List ℕ) (pending i : ℕ) : Type 0 where
    pub shapes : List Plain
    pub rest : List Node
    pub reads : Reads (named surfaces) rest shapes (last_first job.carried.trees)
    pub coming : HoldsCodes codes i rest
    pub begun : from ≤ i
    pub onward : i + length rest ≡ from + count
    pub few : pending ≤ most_shapes
    pub words_long : length words ≡ most_shapes
    pub words_are : stack_of words pending ≡ words_of word shapes

  module _ (job : TreesWord surfaces axes table lengths low left codes from count) where
    pub going_start : (word : Plain → ℕ) {words : List ℕ} → length words ≡ most_shapes → Going word job words 0 from
    going_start word e = record {
      shapes = [];
      rest = all_postfix job.carried.trees;
      reads = reads_all job.carried.few;
      coming = job.carried.holds;
      begun = omega arith;
      onward = omega (arith, job.carried.counted);
      few = omega arith;
      words_long = e;
      words_are = refl;
    }

    module _ {word : Plain → ℕ} {words : List ℕ} {pending i : ℕ} (g : Going word job words pending i) where
      count_is : pending ≡ length g.shapes
      count_is = sym (length_stack words pending) ∙ ap length g.words_are ∙ length_words word g.shapes

      module _ (h : i < from + count) where
        pub code_inside : i < length codes
        code_inside = omega (arith, job.carried.inside)

        record LeafNext : Type 0 where
          tree : Plain
          leaf : Node
          later : List Node
          stands : LeafOf (named surfaces) tree leaf
          room : length g.shapes < most_shapes
          at : get_or codes i 0 ≡ node_code leaf
          reads : Reads (named surfaces) later (tree ∷ g.shapes) (last_first job.carried.trees)
          coming : HoldsCodes codes (suc i) later
          onward : suc i + length later ≡ from + count

        leaf_next : is_join (get_or codes i 0) ≡ false → LeafNext
        leaf_next o = by g.reads g.coming g.onward refl
          where
            by : {ns : List Node} {ps : List Plain} → Reads (named surfaces) ns ps (last_first job.carried.trees) → HoldsCodes codes i ns →
                i + length ns ≡ from + count → g.shapes ≡ ps → LeafNext
            by ended c e s = absurd (omega arith)
            by (pushed {t = t} {n = n} {ns = ns} l f r) (code x hs) e s =
                record { tree = t; leaf = n; later = ns; stands = l; room = rw s f; at = x; reads = rw s r; coming = hs; onward = omega arith }
            by (joined {meet = meet} r) (code x hs) e s = absurd (false≢true (sym o ∙ ap is_join x ∙ (join_code_lem meet).0))

        record JoinNext : Type 0 where
          meet : Bool
          first : Plain
          second : Plain
          under : List Plain
          later : List Node
          shapes_are : g.shapes ≡ second ∷ first ∷ under
          at : get_or codes i 0 ≡ node_code (joining meet)
          reads : Reads (named surfaces) later (join_plain meet first second ∷ under) (last_first job.carried.trees)
          coming : HoldsCodes codes (suc i) later
          onward : suc i + length later ≡ from + count

        join_next : is_join (get_or codes i 0) ≡ true → JoinNext
        join_next o = by g.reads g.coming g.onward refl
          where
            by : {ns : List Node} {ps : List Plain} → Reads (named surfaces) ns ps (last_first job.carried.trees) → HoldsCodes codes i ns →
                i + length ns ≡ from + count → g.shapes ≡ ps → JoinNext
            by ended c e s = absurd (omega arith)
            by (pushed l f r) (code x hs) e s = absurd (false≢true (sym (leaf_code l) ∙ sym (ap is_join x) ∙ o))
            by (joined {meet = meet} {ns = ns} {p = p} {q = q} {ps = ps} r) (code x hs) e s =
                record { meet = meet; first = p; second = q; under = ps; later = ns; shapes_are = s; at = x; reads = r; coming = hs; onward = omega arith }

        -- ---- a leaf
        module _ (o : is_join (get_or codes i 0) ≡ false) where
          abbrev next : LeafNext
          next = leaf_next o

          pub leaf_room : pending < most_shapes
          leaf_room = omega (arith, count_is, next.room)

          pub leaf_job : LeafWord surfaces axes table lengths low left (get_or codes i 0)
          leaf_job = record { block = job.block; tree = next.tree; leaf = next.leaf; stands = next.stands; code_is = next.at }

          pub leaf_block : leaf_job.block ≡ job.block
          unfolding leaf_job
          leaf_block = refl

          pub leaf_is : {r : ℕ} → r ≡ block_mask (plain_colour surfaces leaf_job.block.universe leaf_job.tree) left (word_block leaf_job.block) →
              r ≡ tree_word job.block leaf_job.tree
          unfolding leaf_job
          leaf_is e = e

          pub going_leaf : {r : ℕ} → r ≡ word leaf_job.tree → Going word job (set words pending r) (pending + 1) (i + 1)
          unfolding leaf_job
          going_leaf {r} e =
              rw (add-one i) (record {
                shapes = next.tree ∷ g.shapes;
                rest = next.later;
                reads = next.reads;
                coming = next.coming;
                begun = omega (arith, g.begun);
                onward = next.onward;
                few = omega (arith, leaf_room);
                words_long = length-set words pending r ∙ g.words_long;
                words_are = stack_push words pending r (omega (arith, leaf_room, g.words_long)) ∙ ap₂ ◌∷◌ e g.words_are;
              })

        -- ---- an operator
        module _ (o : is_join (get_or codes i 0) ≡ true) where
          abbrev next_join : JoinNext
          next_join = join_next o

          pub join_two : 2 ≤ pending
          join_two = omega (arith, count_is, ap length next_join.shapes_are)

          words_two : get_or words (pending - 1) 0 ∷ get_or words (pending - 2) 0 ∷ stack_of words (pending - 2)
              ≡ word next_join.second ∷ word next_join.first ∷ words_of word next_join.under
          words_two = sym (stack_two words pending join_two) ∙ g.words_are ∙ ap (words_of word) next_join.shapes_are

          first_is : get_or words (pending - 2) 0 ≡ word next_join.first
          first_is = let e = words_two in cc

          second_is : get_or words (pending - 1) 0 ≡ word next_join.second
          second_is = let e = words_two in cc

          under_are : stack_of words (pending - 2) ≡ words_of word next_join.under
          under_are = let e = words_two in cc

          meet_is : is_meet (get_or codes i 0) ≡ next_join.meet
          meet_is = ap is_meet next_join.at ∙ (join_code_lem next_join.meet).1

          pub going_join : Joins word → {r : ℕ} → r ≡ joined_word (is_meet (get_or codes i 0)) (get_or words (pending - 2) 0) (get_or words (pending - 1) 0) →
              Going word job (set words (pending - 2) r) (pending - 1) (i + 1)
          going_join joins {r} e =
              let f : r ≡ word (join_plain next_join.meet next_join.first next_join.second) =
              e ∙ rw (meet_is, first_is, second_is) (joins.join next_join.meet next_join.first next_join.second) in
              rw (add-one i) (record {
                shapes = join_plain next_join.meet next_join.first next_join.second ∷ next_join.under;
                rest = next_join.later;
                reads = next_join.reads;
                coming = next_join.coming;
                begun = omega (arith, g.begun);
                onward = next_join.onward;
                few = omega (arith, g.few);
                words_long = length-set words (pending - 2) r ∙ g.words_long;
                words_are = stack_joined words pending r join_two (omega (arith, g.few, g.words_long)) ∙ ap₂ ◌∷◌ f under_are;
              })

      -- ---- the end: the trees themselves are pending
      module _ (h : from + count ≤ i) where
        shapes_end : g.shapes ≡ last_first job.carried.trees
        shapes_end = by g.reads g.onward
          where
            by : {ns : List Node} {ps fs : List Plain} → Reads (named surfaces) ns ps fs → i + length ns ≡ from + count → ps ≡ fs
            by ended e = refl
            by (pushed l f r) e = absurd (omega arith)
            by (joined r) e = absurd (omega arith)

        pub going_end : {r : ℕ} → r ≡ whole_word words pending → r ≡ all_word word job.carried.trees
        going_end {r} m = by job.carried.few shapes_end
          where
            by : {ps : List Plain} → OneOrTwo (named surfaces) ps → g.shapes ≡ last_first ps → r ≡ all_word word ps
            by (one {p} c) e =
                let n : pending ≡ 1 = count_is ∙ ap length e in
                let s : stack_of words 1 ≡ word p ∷ [] = ap (stack_of words) (sym n) ∙ g.words_are ∙ ap (words_of word) e in
                let f : get_or words 0 0 ≡ word p = cc in
                m ∙ rw (n, f) refl
            by (two {p} {q} c d) e =
                let n : pending ≡ 2 = count_is ∙ ap length e in
                let s : stack_of words 2 ≡ word q ∷ word p ∷ [] = ap (stack_of words) (sym n) ∙ g.words_are ∙ ap (words_of word) e in
                let f : get_or words 0 0 ≡ word p = cc in
                let k : get_or words 1 0 ≡ word q = cc in
                m ∙ rw (n, f, k) refl
