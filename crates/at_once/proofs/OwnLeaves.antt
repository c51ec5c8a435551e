-- The words of sure and possible contact of leaves and of trees: of a leaf by its code, reversed with the digits exchanged of the word that takes doubt the
-- other way; operators join them as they join words of colours, and two trees at the end are intersected.
use mathlib.Core.Path.{◌≡◌, refl, sym, ap, ap₂, ◌∙◌, subst}
use mathlib.Core.Bool.{Bool, true, false, not}
use mathlib.Core.List.{List}
use Prim.Native.Nat.{ℕ, ◌+◌, ◌-◌, ◌*◌, ◌%◌, ◌^◌, ◌≤◌, ◌<◌}
use native.Mathlib.Omega.{arith}
use lib.ListN.{get_or, set}
use Rattle.universe.specs.declared.Universe.{Universe}
use Rattle.universe.specs.declared.Block.{Block}
use Rattle.bintree.specs.declared.Colour.{Colour}
use Rattle.bintree.specs.declared.Colour.TheVariants.{White, Black}
use Rattle.csg.specs.Halfspace.{Mark, decided}
use Rattle.csg.specs.Surfaces.{Surfaces, Surface, halfspace, ball, named}
use Rattle.csg.specs.Tree.{Plain, side}
use Rattle.csg.specs.Marks.{intersection_mark, intersection_colour, plain_mark}
use Rattle.contacts.specs.Contacts.{block_of, settled}
use Rattle.pruned.specs.Left.{all_mark}
use Rattle.pruned.specs.Nodes.{word_of, bit_of, is_join, is_meet, join_plain, OneOrTwo, one, two}
use Rattle.masks.specs.Mask.{all_ones}
use Rattle.masks.specs.Block.{voxel_at, block_mask}
use Rattle.masks.specs.Own.{doubt_of, own_surface, own_colour}
use Rattle.masks.proofs.Block.{mask_fits, mask_agree}
use Rattle.masks.proofs.Trees.{intersection_mask, white_mask_lem, black_mask_lem}
use Rattle.masks.proofs.Own.{settled_intersection, own_union, own_intersection, own_side, own_reversed, own_constant}
use Rattle.at_once.specs.Words.{WordBlock, word_block, SurfaceWord, LeafWord, TreesWord, joined_word, whole_word}
use Rattle.at_once.specs.declared.three.Three.{Three}
use Rattle.at_once.specs.Own.{all_own, alike_words, reversed_words, WithinOnes, SurfaceThree, TreeThree, AllThree, ThreeShelves}
use Rattle.at_once.proofs.LeafWords as colours
use Rattle.at_once.proofs.LeafWords.{names_row_lem, names_ball_lem, is_white, is_black_lem, here, side_job, side_is}
use Rattle.at_once.proofs.TreeWords.{Joins, all_word, tree_word, word_joins, all_word_lem, Going, going_start, leaf_job, leaf_block, leaf_is, going_leaf}
use Rattle.at_once.proofs.TreeWords.{going_join, going_end}

-- ---- a surface by its name
module _ {surfaces : Surfaces} {axes : ℕ} {table lengths low : List ℕ} {left name : ℕ} (job : SurfaceWord surfaces axes table lengths low left name) where
  abbrev NamedWords : Three → Surface → Type 0
  NamedWords words s = SurfaceThree surfaces job.block.universe s left (word_block job.block) words

  pub three_row : name < 512 → {words : Three} → NamedWords words (halfspace (name - 256)) → NamedWords words job.surface
  three_row l {words} t = subst (NamedWords words) (sym (names_row_lem job l)) t

  pub three_ball : 512 ≤ name → {words : Three} → NamedWords words (ball (name - 512)) → NamedWords words job.surface
  three_ball l {words} t = subst (NamedWords words) (sym (names_ball_lem job l)) t

-- ---- a leaf by its code
module _ (possible : Bool) {surfaces : Surfaces} {axes : ℕ} {table lengths low : List ℕ} {left code : ℕ}
    (job : LeafWord surfaces axes table lengths low left code) where
  abbrev u : Universe
  u = job.block.universe

  abbrev b : Block
  b = word_block job.block

  abbrev mark_word : Plain → ℕ
  mark_word p = block_mask (own_colour possible surfaces u p) left b

  pub gives_white : code ≡ 0 → 0 ≡ mark_word job.tree
  gives_white z = sym (white_mask_lem left b) ∙ own_constant possible surfaces u left b White ∙ ap mark_word (sym (is_white job z))

  pub gives_black : (code ≡ 0 → ⊥) → code < 512 → {ones : ℕ} → ones ≡ all_ones (2 ^ left) → ones ≡ mark_word job.tree
  gives_black z l f = f ∙ sym (black_mask_lem left b) ∙ own_constant possible surfaces u left b Black ∙ ap mark_word (sym (is_black_lem job z l))

  module _ (l : 512 ≤ code) where
    abbrev side_word : Bool → Surface → ℕ
    side_word doubt s = block_mask (own_surface doubt surfaces u s) left b

    module _ (doubt : Bool) {word : ℕ} (e : word ≡ block_mask (own_surface doubt surfaces (side_job job l).block.universe (side_job job l).surface) left
        (word_block (side_job job l).block)) where
      own_is : word ≡ side_word doubt (here job l).surface
      own_is =
          e
          ∙ ap₂ (λ (x : WordBlock surfaces axes table lengths low left) (s : Surface). block_mask (own_surface doubt surfaces x.universe s) left (word_block x))
          (side_is job l).0 (side_is job l).1

      pub exchange_fits : {ones : ℕ} → ones ≡ all_ones (2 ^ left) → word ≤ ones
      exchange_fits f = omega (arith, own_is, mask_fits (own_surface doubt surfaces u (here job l).surface) left b)

    pub gives_own : (code % 2 ≡ 1 → ⊥) → {word : ℕ} → word ≡ block_mask (own_surface possible surfaces (side_job job l).block.universe (side_job job l
        ).surface) left (word_block (side_job job l).block) → word ≡ mark_word job.tree
    gives_own k e = own_is possible e ∙ by (here job l).turned (here job l).code_is ∙ ap mark_word (sym (here job l).tree_is)
      where
        by : (x : Bool) → code ≡ 2 * word_of (here job l).surface + bit_of x →
            side_word possible (here job l).surface ≡ mark_word (side x (here job l).surface)
        by true f = absurd (k (omega arith))
        by false f = own_side possible surfaces u left b (here job l).surface

    pub gives_reversed : code % 2 ≡ 1 → {ones : ℕ} → ones ≡ all_ones (2 ^ left) → {word : ℕ} → word ≡ block_mask (own_surface (not possible) surfaces (side_job
        job l).block.universe (side_job job l).surface) left (word_block (side_job job l).block) → ones - word ≡ mark_word job.tree
    gives_reversed k f e =
        ap₂ (λ (x y : ℕ). x - y) f (own_is (not possible) e) ∙ by (here job l).turned (here job l).code_is ∙ ap mark_word (sym (here job l).tree_is)
      where
        by : (x : Bool) → code ≡ 2 * word_of (here job l).surface + bit_of x →
            all_ones (2 ^ left) - side_word (not possible) (here job l).surface ≡ mark_word (side x (here job l).surface)
        by true f = own_reversed possible surfaces u left b (here job l).surface
        by false f = absurd (omega arith)

-- ---- all three words of a leaf
module _ {surfaces : Surfaces} {axes : ℕ} {table lengths low : List ℕ} {left code : ℕ} (job : LeafWord surfaces axes table lengths low left code) where
  abbrev TreeWords : Three → Type 0
  TreeWords words = TreeThree surfaces job.block.universe job.tree left (word_block job.block) words

  pub three_white : code ≡ 0 → {r : Three} → r ≡ alike_words 0 → TreeWords r
  three_white z q =
      rw q (record { sure = gives_white false job z; centre = colours.gives_white job z; possible = gives_white true job z })

  pub three_black : (code ≡ 0 → ⊥) → code < 512 → {ones : ℕ} → ones ≡ all_ones (2 ^ left) → {r : Three} → r ≡ alike_words ones → TreeWords r
  three_black z l f q =
      rw q (record { sure = gives_black false job z l f; centre = colours.gives_black job z l f; possible = gives_black true job z l f })

  module _ (l : 512 ≤ code) {words : Three} (t : SurfaceThree surfaces (side_job job l).block.universe (side_job job l).surface left
      (word_block (side_job job l).block) words) where
    pub three_own : (code % 2 ≡ 1 → ⊥) → TreeWords words
    three_own k =
        record {
          sure = gives_own false job l k t.sure;
          centre = colours.gives_own job l t.centre k;
          possible = gives_own true job l k t.possible;
        }

    module _ {ones : ℕ} (f : ones ≡ all_ones (2 ^ left)) where
      pub three_within : WithinOnes ones words
      three_within =
          record {
            sure = exchange_fits false job l false t.sure f;
            centre = colours.exchange_fits job l t.centre f;
            possible = exchange_fits true job l true t.possible f;
          }

      pub three_reversed : code % 2 ≡ 1 → {r : Three} → r ≡ reversed_words ones words → TreeWords r
      three_reversed k q =
          rw q (record {
            sure = gives_reversed false job l k f t.possible;
            centre = colours.gives_reversed job l t.centre k f;
            possible = gives_reversed true job l k f t.sure;
          })

-- ---- trees
module _ (possible : Bool) {surfaces : Surfaces} {axes : ℕ} {table lengths low : List ℕ} {left : ℕ}
    (w : WordBlock surfaces axes table lengths low left) where
  abbrev pub own_word : Plain → ℕ
  own_word p = block_mask (own_colour possible surfaces w.universe p) left (word_block w)

  join_words : (meet : Bool) (p q : Plain) → joined_word meet (own_word p) (own_word q) ≡ own_word (join_plain meet p q)
  join_words true p q = own_intersection possible surfaces w.universe left (word_block w) p q
  join_words false p q = own_union possible surfaces w.universe left (word_block w) p q

  pub own_joins : Joins own_word
  own_joins = record { join = join_words }

  abbrev doubt : Colour
  doubt = doubt_of possible

  black_too : (m : Mark) → settled doubt (intersection_mark m (decided Black)) ≡ settled doubt m
  unfolding intersection_colour
  black_too m = settled_intersection doubt m (decided Black) ∙ by (settled doubt m)
    where
      by : (c : Colour) → intersection_colour c Black ≡ c
      by White = refl
      by Black = refl

  pub own_all_word : {ps : List Plain} → OneOrTwo (named surfaces) ps → all_word own_word ps ≡ block_mask (all_own possible surfaces w.universe ps) left
      (word_block w)
  unfolding own_colour all_own all_mark
  own_all_word (one {p} c) =
      mask_agree _ _ left (word_block w) (λ i l. sym (black_too (plain_mark surfaces p (block_of w.universe (voxel_at left (word_block w) i)))))
  own_all_word (two {p} {q} c d) =
      intersection_mask (own_colour possible surfaces w.universe p) (own_colour possible surfaces w.universe q) left (word_block w)
      ∙ mask_agree _ _ left (word_block w) (λ i l.
      let v = block_of w.universe (voxel_at left (word_block w) i) in
      sym (settled_intersection doubt (plain_mark surfaces p v) (intersection_mark (plain_mark surfaces q v) (decided Black))
      ∙ ap (intersection_colour (settled doubt (plain_mark surfaces p v))) (black_too (plain_mark surfaces q v))))

-- a leaf's word, of the leaf that stands next
pub own_leaf_is : (possible : Bool) {surfaces : Surfaces} {axes : ℕ} {table lengths low : List ℕ} {left : ℕ} {codes : List ℕ} {from count : ℕ}
    (job : TreesWord surfaces axes table lengths low left codes from count) {word : Plain → ℕ} {words : List ℕ} {pending i : ℕ}
    (g : Going word job words pending i) (h : i < from + count) (o : is_join (get_or codes i 0) ≡ false) {r : ℕ} →
    r ≡ block_mask (own_colour possible surfaces (leaf_job job g h o).block.universe (leaf_job job g h o).tree) left (word_block (leaf_job job g h o).block) →
    r ≡ own_word possible job.block (leaf_job job g h o).tree
own_leaf_is possible {surfaces} {axes} {table} {lengths} {low} {left} job g h o e =
    e
    ∙ ap (λ (x : WordBlock surfaces axes table lengths low left). block_mask (own_colour possible surfaces x.universe (leaf_job job g h o).tree) left
    (word_block x)) (leaf_block job g h o)

-- ---- the loop, for all three words
module _ {surfaces : Surfaces} {axes : ℕ} {table lengths low : List ℕ} {left : ℕ} {codes : List ℕ} {from count : ℕ}
    (job : TreesWord surfaces axes table lengths low left codes from count) where
  pub record GoingThree (sures centres possibles : List ℕ) (pending i : ℕ) : Type 0 where
    pub sure : Going (own_word false job.block) job sures pending i
    pub centre : Going (tree_word job.block) job centres pending i
    pub possible : Going (own_word true job.block) job possibles pending i

  pub three_start : {sures centres possibles : List ℕ} → ThreeShelves sures centres possibles → GoingThree sures centres possibles 0 from
  three_start s =
      record {
        sure = going_start job (own_word false job.block) s.sures_long;
        centre = going_start job (tree_word job.block) s.centres_long;
        possible = going_start job (own_word true job.block) s.possibles_long;
      }

  module _ {sures centres possibles : List ℕ} {pending i : ℕ} (g : GoingThree sures centres possibles pending i) where
    pub three_leaf : (h : i < from + count) (o : is_join (get_or codes i 0) ≡ false) {r : Three} →
        ((j : LeafWord surfaces axes table lengths low left (get_or codes i 0)) →
        TreeThree surfaces j.block.universe j.tree left (word_block j.block) r) →
        GoingThree (set sures pending r.sure) (set centres pending r.centre) (set possibles pending r.possible) (pending + 1) (i + 1)
    three_leaf h o f =
        record {
          sure = going_leaf job g.sure h o (own_leaf_is false job g.sure h o (f (leaf_job job g.sure h o)).sure);
          centre = going_leaf job g.centre h o (leaf_is job g.centre h o (f (leaf_job job g.centre h o)).centre);
          possible = going_leaf job g.possible h o (own_leaf_is true job g.possible h o (f (leaf_job job g.possible h o)).possible);
        }

    pub three_join : (h : i < from + count) (o : is_join (get_or codes i 0) ≡ true) {x y z : ℕ} →
        x ≡ joined_word (is_meet (get_or codes i 0)) (get_or sures (pending - 2) 0) (get_or sures (pending - 1) 0) →
        y ≡ joined_word (is_meet (get_or codes i 0)) (get_or centres (pending - 2) 0) (get_or centres (pending - 1) 0) →
        z ≡ joined_word (is_meet (get_or codes i 0)) (get_or possibles (pending - 2) 0) (get_or possibles (pending - 1) 0) →
        GoingThree (set sures (pending - 2) x) (set centres (pending - 2) y) (set possibles (pending - 2) z) (pending - 1) (i + 1)
    three_join h o e f k =
        record {
          sure = going_join job g.sure h o (own_joins false job.block) e;
          centre = going_join job g.centre h o (word_joins job.block) f;
          possible = going_join job g.possible h o (own_joins true job.block) k;
        }

    pub three_end : from + count ≤ i → {x y z : ℕ} → x ≡ whole_word sures pending → y ≡ whole_word centres pending → z ≡ whole_word possibles pending →
        AllThree surfaces job.block.universe job.carried.trees left (word_block job.block) (record { sure = x; centre = y; possible = z })
    three_end h e f k =
        record {
          sure = going_end job g.sure h e ∙ own_all_word false job.block job.carried.few;
          centre = going_end job g.centre h f ∙ all_word_lem job.block job.carried.few;
          possible = going_end job g.possible h k ∙ own_all_word true job.block job.carried.few;
        }

    pub three_long : ThreeShelves sures centres possibles
    three_long =
        record {
          sures_long = g.sure.words_long;
          centres_long = g.centre.words_long;
          possibles_long = g.possible.words_long;
        }
