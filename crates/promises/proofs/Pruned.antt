-- The pruned conversions beside the first: their answers are made of the same checks and the same symbols, with the work room's check between, and the nodes
-- looked at are bounded. All by the laws of crate `pruned`.
use Prim.Native.Nat.{ℕ, ◌+◌, ◌*◌, ◌≤◌, ◌<◌}
use mathlib.Core.Path.{◌≡◌, refl, sym, ap, subst, ◌∙◌}
use mathlib.Core.List.{List, [], ◌∷◌}
use native.Mathlib.Decide.{ℕ_discrete, dec_le}
use native.Mathlib.Omega.{arith}
use lib.IntN.{ℤ}
use lib.ListN.{length}
use Rattle.universe.specs.declared.Universe.{Universe}
use Rattle.universe.specs.Universe.{levels}
use Rattle.universe.specs.Block.{whole_block}
use Rattle.universe.proofs.Lent.{room_enough, room_short}
use Rattle.bintree.specs.Told.{WrittenAnswer}
use Rattle.bintree.specs.Answers.{written_answer, written_buffer}
use Rattle.csg.specs.Surfaces.{Surfaces, named}
use Rattle.csg.specs.Tree.{Tree, Plain}
use Rattle.csg.specs.Words.{tree_of}
use Rattle.csg.specs.Raw.{blocks_examined}
use Rattle.convert.specs.Blocks.{trees_of}
use Rattle.convert.specs.Answers.{one_tree_refusal, two_trees_refusal, raw_of_one, merged_of_one, raw_of_two, merged_of_two}
use Rattle.convert.specs.Answers as convert
use Rattle.pruned.specs.Told.{ConversionAnswer}
use Rattle.pruned.specs.Left.{all_nodes}
use Rattle.pruned.specs.Looked.{nodes_looked}
use Rattle.pruned.specs.Answers.{one_tree, two_trees, nodes_lent, nodes_needed, refused_conversion, short_of_work, short_of_symbols, done_conversion, written_conversion}
use Rattle.pruned.specs.Answers.{conversion_answer, conversion_room}
use Rattle.pruned.specs.Answers as pruned
use Rattle.pruned.proofs.Answers.{is_refused, is_short, is_written, Same, same}
use Rattle.pruned.proofs.Looked.{one_stands, two_stand, looked_most}
use Rattle.pruned.proofs.Loads.{words_nodes}
use Rattle.pruned.proofs.Conversions.{all_accepted, one_refusal}
use Rattle.promises.specs.Pruned.{Alike}

-- ---- any conversion: these checks, this need, these symbols, these nodes
module _ (before : ℕ) (work : List ℤ) (needed : ℕ) (out symbols : List ℕ) (looked : ℕ) where
  abbrev answer : ConversionAnswer
  answer = conversion_answer before work needed out symbols looked

  abbrev left : List ℕ
  left = conversion_room before work needed out symbols

  abbrev first : WrittenAnswer
  first = written_answer before out symbols

  abbrev first_left : List ℕ
  first_left = written_buffer before out symbols

  refused : (before ≡ 0 → ⊥) → answer ≡ refused_conversion before
  refused = is_refused before work needed out symbols looked

  short : before ≡ 0 → nodes_lent work < needed → answer ≡ short_of_work needed
  short = is_short before work needed out symbols looked

  written : before ≡ 0 → needed ≤ nodes_lent work → answer ≡ written_conversion out symbols looked
  written = is_written before work needed out symbols looked

  as_first : needed ≤ nodes_lent work → Same before work needed out symbols looked
  as_first h = same before work needed out symbols looked (λ z. h)

  -- ---- the nodes: those looked at where it is done, else none
  nodes_by : {G : Type 0} → (answer.refusal ≡ 0 → before ≡ 0 → answer.looked ≡ looked → G) → ((answer.refusal ≡ 0 → ⊥) → answer.looked ≡ 0 → G) → G
  unfolding written_conversion
  nodes_by {G} yes' no' = by (ℕ_discrete before 0) (dec_le needed (nodes_lent work)) (dec_le (length symbols) (length out))
    where
      by : Dec (before ≡ 0) → Dec (needed ≤ nodes_lent work) → Dec (length symbols ≤ length out) → G
      by (no n) h k = let e = refused n in no' (λ z. n (sym (ap (λ (x : ConversionAnswer). x.refusal) e) ∙ z)) (ap (λ (x : ConversionAnswer). x.looked) e)
      by (yes z) (no h) k =
          let e = short z (omega arith) in
          no' (λ y. omega (arith, ap (λ (x : ConversionAnswer). x.refusal) e)) (ap (λ (x : ConversionAnswer). x.looked) e)
      by (yes z) (yes h) (yes k) =
          let e : answer ≡ done_conversion (length symbols) looked = written z h ∙ rw (room_enough (length out) (length symbols) k) in
          yes' (ap (λ (x : ConversionAnswer). x.refusal) e) z (ap (λ (x : ConversionAnswer). x.looked) e)
      by (yes z) (yes h) (no k) =
          let e : answer ≡ short_of_symbols (length symbols) = written z h ∙ rw (room_short (length out) (length symbols) (omega arith)) in
          no' (λ y. omega (arith, ap (λ (x : ConversionAnswer). x.refusal) e)) (ap (λ (x : ConversionAnswer). x.looked) e)

  alike : (u : Universe) (surfaces : Surfaces) (words : ℕ) (tree : Tree) (trees : List Plain) → looked ≡ nodes_looked u surfaces trees →
      (before ≡ 0 → looked ≤ blocks_examined u surfaces tree * words) → Alike u surfaces before needed words tree trees work first first_left answer left
  alike u surfaces words tree trees e most =
      record {
        same_number = λ h. (as_first h).number;
        same_length = λ h. (as_first h).long;
        same_symbols = λ h. (as_first h).room;
        no_lack = λ h. (as_first h).lack;
        before_work = λ n. ap (λ (x : ConversionAnswer). x.refusal) (refused n);
        lack = λ z h. let k = short z h in
            (ap (λ (x : ConversionAnswer). x.refusal) k, ap (λ (x : ConversionAnswer). x.short_of_work) k, ap (λ (x : ConversionAnswer). x.length) k);
        looked = λ z. nodes_by (λ y b k. k ∙ e) (λ n k. absurd (n z));
        looked_most = nodes_by (λ y b k. omega (arith, most b)) (λ n k. omega arith);
        looked_none = λ n. nodes_by (λ y b k. absurd (n y)) (λ m k. k);
      }

-- ---- the nodes looked at, of one tree and of two
module _ (u : Universe) (surfaces : Surfaces) where
  module _ (words : List ℕ) where
    one_most : one_tree_refusal u surfaces words ≡ 0 →
        nodes_looked u surfaces (one_tree surfaces words) ≤ blocks_examined u surfaces (tree_of (named surfaces) words) * length words
    unfolding all_nodes
    one_most z =
        let a = all_accepted u surfaces words (1 ∷ []) (one_refusal u surfaces words ∙ z) in
        let n : all_nodes (one_tree surfaces words) ≡ length words = omega (arith, words_nodes (named surfaces) words a.1.0) in
        let m = looked_most (one_stands surfaces (tree_of (named surfaces) words)) (levels u) (whole_block u) (all_nodes (one_tree surfaces words)) (omega arith) in
        subst (λ (k : ℕ). nodes_looked u surfaces (one_tree surfaces words) ≤ blocks_examined u surfaces (tree_of (named surfaces) words) * k) n m

    -- THEOREM, of one tree
    pub raw_of_one_lem : (work : List ℤ) (out : List ℕ) →
        Alike u surfaces (one_tree_refusal u surfaces words) (nodes_needed u (length words)) (length words) (tree_of (named surfaces) words)
        (one_tree surfaces words) work (convert.raw_of_one_answer u surfaces words out) (convert.raw_of_one_buffer u surfaces words out)
        (pruned.raw_of_one_answer u surfaces words work out) (pruned.raw_of_one_buffer u surfaces words work out)
    unfolding convert.raw_of_one_answer convert.raw_of_one_buffer pruned.raw_of_one_answer pruned.raw_of_one_buffer
    raw_of_one_lem work out = alike _ work _ out (raw_of_one u surfaces words) _ u surfaces (length words) _ _ refl one_most

    pub merged_of_one_lem : (work : List ℤ) (out : List ℕ) →
        Alike u surfaces (one_tree_refusal u surfaces words) (nodes_needed u (length words)) (length words) (tree_of (named surfaces) words)
        (one_tree surfaces words) work (convert.merged_of_one_answer u surfaces words out) (convert.merged_of_one_buffer u surfaces words out)
        (pruned.merged_of_one_answer u surfaces words work out) (pruned.merged_of_one_buffer u surfaces words work out)
    unfolding convert.merged_of_one_answer convert.merged_of_one_buffer pruned.merged_of_one_answer pruned.merged_of_one_buffer
    merged_of_one_lem work out = alike _ work _ out (merged_of_one u surfaces words) _ u surfaces (length words) _ _ refl one_most

  module _ (first second : List ℕ) where
    two_most : two_trees_refusal u surfaces first second ≡ 0 →
        nodes_looked u surfaces (two_trees surfaces first second) ≤ blocks_examined u surfaces (trees_of surfaces first second) * (length first + length second)
    unfolding all_nodes
    two_most z =
        let a = all_accepted u surfaces first second z in
        let n : all_nodes (two_trees surfaces first second) ≡ length first + length second =
        omega (arith, words_nodes (named surfaces) first a.1.0, words_nodes (named surfaces) second a.1.1) in
        let m = looked_most (two_stand surfaces (tree_of (named surfaces) first) (tree_of (named surfaces) second)) (levels u) (whole_block u)
        (all_nodes (two_trees surfaces first second)) (omega arith) in
        subst (λ (k : ℕ). nodes_looked u surfaces (two_trees surfaces first second) ≤ blocks_examined u surfaces (trees_of surfaces first second) * k) n m

    -- THEOREM, of two trees
    pub raw_of_two_lem : (work : List ℤ) (out : List ℕ) →
        Alike u surfaces (two_trees_refusal u surfaces first second) (nodes_needed u (length first + length second)) (length first + length second)
        (trees_of surfaces first second) (two_trees surfaces first second) work (convert.raw_of_two_answer u surfaces first second out)
        (convert.raw_of_two_buffer u surfaces first second out) (pruned.raw_of_two_answer u surfaces first second work out)
        (pruned.raw_of_two_buffer u surfaces first second work out)
    unfolding convert.raw_of_two_answer convert.raw_of_two_buffer pruned.raw_of_two_answer pruned.raw_of_two_buffer
    raw_of_two_lem work out = alike _ work _ out (raw_of_two u surfaces first second) _ u surfaces (length first + length second) _ _ refl two_most

    pub merged_of_two_lem : (work : List ℤ) (out : List ℕ) →
        Alike u surfaces (two_trees_refusal u surfaces first second) (nodes_needed u (length first + length second)) (length first + length second)
        (trees_of surfaces first second) (two_trees surfaces first second) work (convert.merged_of_two_answer u surfaces first second out)
        (convert.merged_of_two_buffer u surfaces first second out) (pruned.merged_of_two_answer u surfaces first second work out)
        (pruned.merged_of_two_buffer u surfaces first second work out)
    unfolding convert.merged_of_two_answer convert.merged_of_two_buffer pruned.merged_of_two_answer pruned.merged_of_two_buffer
    merged_of_two_lem work out = alike _ work _ out (merged_of_two u surfaces first second) _ u surfaces (length first + length second) _ _ refl two_most
