-- The conversions: the first check that refuses is the answer's number; then the work room is asked for. Where all accept, the words of the trees are loaded,
-- and the universe is written from their nodes; they stand for the tree, or for the two intersected, that the first conversion converts.
use Prim.Native.Nat.{ℕ, suc, ◌+◌, ◌*◌, ◌^◌, ◌≤◌, ◌<◌}
use native.Mathlib.Omega.{arith}
use native.Mathlib.Nat.{mul-le-mul}
use native.Mathlib.Decide.{ℕ_discrete}
use mathlib.Core.Path.{◌≡◌, refl, sym, ap, ◌∙◌}
use mathlib.Core.Bool.{Bool, true, false}
use mathlib.Core.List.{List, [], ◌∷◌, ◌++◌, append-nil}
use borrow.Author.Tests.{eq-eqb, ne_eqb}
use Rattle.std.specs.Prelude.{Result, Ok, Err}
use lib.IntN.{ℤ}
use lib.ListN.{length, replicate, length-append}
use Rattle.universe.specs.declared.Universe.{Universe}
use Rattle.universe.specs.declared.refusal.Refusal.{Refusal}
use Rattle.universe.specs.Told.{number_of, RoomAnswer, room_told}
use Rattle.universe.proofs.Telling.{number-not_zero}
use Rattle.universe.specs.Universe.{most_axes, most_levels, universe_refusal, levels}
use Rattle.universe.specs.Questions.{levels_answer}
use Rattle.universe.specs.Refusals.{first_refusal}
use Rattle.universe.specs.Block.{whole_block}
use Rattle.universe.specs.Room.{room, room_answer}
use Rattle.universe.proofs.Lent.{room_enough, room_short}
use Rattle.universe.proofs.Questions.{levels_told, levels_answered}
use Rattle.bintree.specs.Shape.{Shape, size, symbols}
use Rattle.bintree.proofs.Shape.{length_symbols}
use Rattle.csg.specs.Halfspace.{rows_refusal}
use Rattle.csg.specs.Ball.{balls_refusal}
use Rattle.csg.specs.Surfaces.{Surfaces, Named, named}
use Rattle.csg.specs.Tree.{Tree, Plain, plain, count_leaves, leaves, ball_leaves}
use Rattle.csg.specs.Words.{meaning, step, finish, run, parse, tree_refusal, tree_of, halfspace_words, ball_words}
use Rattle.csg.specs.Raw.{raw}
use Rattle.csg.proofs.Words.{accepted_length, tree_leaves, tree_balls}
use Rattle.demands.proofs.Room.{raw_room}
use Rattle.convert.specs.Blocks.{Standing, whole_sides}
use Rattle.convert.specs.Shapes.{shaped}
use Rattle.convert.specs.Answers.{one_tree_checks, one_tree_refusal, two_trees_checks, two_trees_refusal, raw_of_one, merged_of_one, raw_of_two, merged_of_two, written_of_two}
use Rattle.convert.proofs.Blocks.{whole_standing}
use Rattle.pruned.specs.Told.{ConversionAnswer}
use Rattle.pruned.specs.Looked.{examine_all, nodes_looked}
use Rattle.pruned.specs.Nodes.{postfix, all_postfix, Holds, one, two, most_shapes}
use Rattle.pruned.specs.Laying.{SoundScene}
use Rattle.pruned.specs.Loading.{Sources, whole_of, Loading, Loaded}
use Rattle.pruned.specs.Answers.{one_tree, two_trees, nodes_lent, nodes_needed, refused_conversion, short_of_work}
use Rattle.pruned.specs.Answers.{conversion_answer, conversion_room, written_of_one, raw_of_one_answer, raw_of_one_buffer, merged_of_one_answer, merged_of_one_buffer}
use Rattle.pruned.specs.Answers.{raw_of_two_answer, raw_of_two_buffer, merged_of_two_answer, merged_of_two_buffer, work_of_one, work_of_two}
use Rattle.pruned.specs.Whole.{Ended, WholeJob, symbols_of, OneReady, TwoReady, Converted}
use Rattle.pruned.proofs.Looked.{StandsFor, one_stands, two_stand, examine_all_lem}
use Rattle.pruned.proofs.Loads.{words_carried}
use Rattle.pruned.proofs.Memory.{holds_same, holds_join}

-- ---- the checks
first_zero : (n : ℕ) (ns : List ℕ) → first_refusal (n ∷ ns) ≡ 0 → (n ≡ 0) × (first_refusal ns ≡ 0)
first_zero n ns e = by (ℕ_discrete n 0)
  where
    by : Dec (n ≡ 0) → (n ≡ 0) × (first_refusal ns ≡ 0)
    by (yes z) = (z, rw (eq-eqb n 0 z) at e)
    by (no h) = absurd (h (rw (ne_eqb n 0 h) at e))

module _ (u : Universe) (surfaces : Surfaces) (first second : List ℕ) (e : two_trees_refusal u surfaces first second ≡ 0) where
  pub all_accepted : SoundScene u surfaces × ((tree_refusal (named surfaces) first ≡ 0) × (tree_refusal (named surfaces) second ≡ 0))
  unfolding two_trees_checks
  all_accepted =
      let last : List ℕ = tree_refusal (named surfaces) second ∷ [] in
      let trees : List ℕ = tree_refusal (named surfaces) first ∷ last in
      let balls : List ℕ = balls_refusal u surfaces.balls ∷ trees in
      let a = first_zero (universe_refusal u) (rows_refusal u surfaces.rows ∷ balls) e in
      let b = first_zero (rows_refusal u surfaces.rows) balls a.1 in
      let c = first_zero (balls_refusal u surfaces.balls) trees b.1 in
      let d = first_zero (tree_refusal (named surfaces) first) last c.1 in
      let f = first_zero (tree_refusal (named surfaces) second) [] d.1 in
      (record { accepted_universe = a.0; accepted_rows = b.0; accepted_balls = c.0 }, (d.0, f.0))

-- one tree is checked as that tree intersected with BLACK, which no check refuses
abbrev black_words : List ℕ
black_words = 1 ∷ []

black_accepted : (names : Named) → tree_refusal names black_words ≡ 0
unfolding tree_refusal parse run step finish meaning
black_accepted names = refl

pub one_refusal : (u : Universe) (surfaces : Surfaces) (words : List ℕ) → two_trees_refusal u surfaces words black_words ≡ one_tree_refusal u surfaces words
unfolding two_trees_checks one_tree_checks
one_refusal u surfaces words = rw (black_accepted (named surfaces))

-- ---- how a conversion ends
module _ {refusal needed looked : ℕ} {work : List ℤ} {out written : List ℕ} where
  pub converted_refused : (r : Refusal) → number_of r ≡ refusal →
      Converted refusal work needed out written looked (refused_conversion (number_of r)) out work
  unfolding conversion_answer conversion_room
  converted_refused r e =
      let n = ne_eqb (number_of r) 0 (number-not_zero r) in
      rw (← e) (record { answer = rw n; room = rw (n, n); kept = λ k. refl })

  module _ (z : refusal ≡ 0) where
    pub converted_short : {n : ℕ} → n ≡ needed → nodes_lent work < n →
        Converted refusal work needed out written looked (short_of_work n) out work
    unfolding conversion_answer conversion_room
    converted_short {n} e h =
        let s = room_short (nodes_lent work) needed (omega arith) in
        record { answer = rw (z, s, e); room = rw (z, s); kept = λ k. refl }

    pub converted_ended : needed ≤ nodes_lent work → {r : ConversionAnswer} {out' : List ℕ} {work' : List ℤ} → Ended out written looked r out' →
        Converted refusal work needed out written looked r out' work'
    unfolding conversion_answer conversion_room
    converted_ended h d =
        let s = room_enough (nodes_lent work) needed h in
        record { answer = d.answer ∙ rw (z, s); room = d.room ∙ rw (z, s); kept = λ k. absurd (k (rw (z, s) refl)) }

-- ---- the trees that are loaded
module _ {u : Universe} {surfaces : Surfaces} (scene : SoundScene u surfaces) {side : List ℕ} (e : side ≡ whole_sides u) where
  stands : Standing u (levels u) (replicate most_axes 0) side
  stands = rw e (whole_standing u scene.accepted_universe)

  unfoldable pub sources : Sources u.axes surfaces.rows side
  unfolding stands
  sources = record { universe = u; surfaces = surfaces; scene = scene; rows_are = refl; axes_are = refl; standing = stands }

-- the room question is answered with the room, and is not refused
pub room_given : (u : Universe) (x b : ℕ) → universe_refusal u ≡ 0 → (a : Result ℕ Refusal) → room_told a ≡ room_answer u x b → a ≡ Ok (room u x b)
unfolding room_answer
room_given u x b z (Ok r) e = ap Ok (ap (λ (a : RoomAnswer). a.symbols) e ∙ rw (eq-eqb (universe_refusal u) 0 z))
room_given u x b z (Err r) e =
    absurd (number-not_zero r (ap (λ (a : RoomAnswer). a.refusal) e ∙ rw (eq-eqb (universe_refusal u) 0 z)))

-- trees that stand for one that is converted: room for it suffices, and its symbols are theirs
module _ (u : Universe) {surfaces : Surfaces} {ps : List Plain} {t : Tree} (s : StandsFor surfaces ps t) where
  same_shape : examine_all surfaces ps (levels u) (whole_block u) ≡ raw u surfaces t
  same_shape = examine_all_lem s (levels u) (whole_block u)

  in_room : universe_refusal u ≡ 0 → size (examine_all surfaces ps (levels u) (whole_block u)) ≤ room u (leaves t) (ball_leaves t)
  in_room e = omega (arith, ap size same_shape, length_symbols (raw u surfaces t), raw_room u e surfaces t)

  same_symbols : (m : Bool) → symbols_of m u surfaces ps ≡ symbols (shaped m (raw u surfaces t))
  same_symbols m = ap (λ (x : Shape). symbols (shaped m x)) same_shape

-- ---- one tree
module _ {u : Universe} {surfaces : Surfaces} {words : List ℕ} {work : List ℤ} (ready : OneReady u surfaces words work)
    {side : List ℕ} (e : side ≡ whole_sides u) where
  abbrev names : Named
  names = named surfaces

  unfoldable pub one_loading : (starts : List ℕ) → length starts ≡ most_shapes → Loading u.axes surfaces.rows side words work 0 starts
  unfolding sources
  one_loading starts l =
      record {
        sources = sources ready.scene e;
        accepted = ready.accepted;
        inside = few;
        bounded = ready.bounded;
        starts_long = l;
      }
    where
      few : 3 * (0 + length words) ≤ length work
      few = omega (arith, ready.enough)

  abbrev one_tree_lem : Tree
  one_tree_lem = tree_of names words

  module _ (starts : List ℕ) (l : length starts ≡ most_shapes) {work₁ : List ℤ} {starts₁ : List ℕ} (d : Loaded (one_loading starts l) work₁ starts₁)
      {x b lent : ℕ} (p : x ≡ halfspace_words words) (q : b ≡ ball_words words) (a : room u x b ≤ lent) where
    holds_one : Holds surfaces (whole_of u) work₁ 0 (postfix (plain one_tree_lem))
    unfolding one_loading sources
    holds_one = d.holds

    counted_one : length (postfix (plain one_tree_lem)) ≡ length words
    unfolding one_loading sources
    counted_one = d.counted

    one_in_room : size (examine_all surfaces (one_tree surfaces words) (levels u) (whole_block u)) ≤ room u x b
    one_in_room = rw (p, q, ← tree_leaves names words ready.accepted, ← tree_balls names words ready.accepted)
        (in_room u (one_stands surfaces one_tree_lem) ready.scene.accepted_universe)

    pub one_whole : WholeJob u surfaces side work₁ (length words) starts₁ lent
    unfolding all_postfix count_leaves
    one_whole =
        record {
          scene = ready.scene;
          trees = one_tree surfaces words;
          few = one (words_carried names words ready.accepted);
          counted = sym counted_one ∙ ap length (sym (append-nil (postfix (plain one_tree_lem))));
          short = omega (arith, accepted_length names words ready.accepted);
          holds = rw (append-nil (postfix (plain one_tree_lem))) holds_one;
          standing = stands ready.scene e;
          enough = rw d.below.long ready.enough;
          bounded = rw d.below.long ready.bounded;
          starts_long = d.starts_long;
          suffices = omega (arith, one_in_room, a);
        }

    pub one_ended : (m : Bool) (out : List ℕ) {r : ConversionAnswer} {out' : List ℕ} →
        Ended out (symbols_of m u surfaces one_whole.trees) (nodes_looked u surfaces one_whole.trees) r out' →
        Ended out (written_of_one m u surfaces words) (nodes_looked u surfaces (one_tree surfaces words)) r out'
    unfolding one_whole written_of_one
    one_ended m out k = rw (same_symbols u (one_stands surfaces one_tree_lem) m) at k

-- ---- two trees
module _ {u : Universe} {surfaces : Surfaces} {first second : List ℕ} {work : List ℤ} (ready : TwoReady u surfaces first second work)
    {side : List ℕ} (e : side ≡ whole_sides u) where
  abbrev names₂ : Named
  names₂ = named surfaces

  unfoldable pub first_loading : (starts : List ℕ) → length starts ≡ most_shapes → Loading u.axes surfaces.rows side first work 0 starts
  unfolding sources
  first_loading starts l =
      record {
        sources = sources ready.scene e;
        accepted = ready.accepted_first;
        inside = few;
        bounded = ready.bounded;
        starts_long = l;
      }
    where
      few : 3 * (0 + length first) ≤ length work
      few = omega (arith, ready.enough)

  abbrev plain_first : Plain
  plain_first = plain (tree_of names₂ first)

  abbrev plain_second : Plain
  plain_second = plain (tree_of names₂ second)

  module _ (starts : List ℕ) (l : length starts ≡ most_shapes) {work₁ : List ℤ} {starts₁ : List ℕ} (d : Loaded (first_loading starts l) work₁ starts₁) where
    unfoldable pub second_loading : Loading u.axes surfaces.rows side second work₁ (length first) starts₁
    unfolding sources
    second_loading =
        record {
          sources = sources ready.scene e;
          accepted = ready.accepted_second;
          inside = few;
          bounded = small;
          starts_long = d.starts_long;
        }
      where
        few : 3 * (length first + length second) ≤ length work₁
        few = omega (arith, ready.enough, d.below.long)

        small : length work₁ < 2 ^ 60
        small = omega (arith, ready.bounded, d.below.long)

    holds_first : Holds surfaces (whole_of u) work₁ 0 (postfix plain_first)
    unfolding first_loading sources
    holds_first = d.holds

    counted_first : length (postfix plain_first) ≡ length first
    unfolding first_loading sources
    counted_first = d.counted

    module _ {work₂ : List ℤ} {starts₂ : List ℕ} (f : Loaded second_loading work₂ starts₂) {x y b c lent : ℕ}
        (p : x ≡ halfspace_words first) (p₂ : y ≡ halfspace_words second) (q : b ≡ ball_words first) (q₂ : c ≡ ball_words second)
        (a : room u (x + y) (b + c) ≤ lent) where
      holds_second : Holds surfaces (whole_of u) work₂ (length first) (postfix plain_second)
      unfolding second_loading sources
      holds_second = f.holds

      counted_second : length (postfix plain_second) ≡ length second
      unfolding second_loading sources
      counted_second = f.counted

      same_long : length work₂ ≡ length work
      same_long = f.below.long ∙ d.below.long

      holds_both : Holds surfaces (whole_of u) work₂ 0 (postfix plain_first ++ (postfix plain_second ++ []))
      holds_both =
          let at : 0 + length (postfix plain_first) ≡ length first = omega (arith, counted_first) in
          holds_join (postfix plain_first) (postfix plain_second ++ [])
          (holds_same (λ k m n. f.below.same k (omega (arith, counted_first))) holds_first)
          (rw (at, append-nil (postfix plain_second)) holds_second)

      two_in_room : size (examine_all surfaces (two_trees surfaces first second) (levels u) (whole_block u)) ≤ room u (x + y) (b + c)
      unfolding count_leaves
      two_in_room =
          rw (
            p,
            p₂,
            q,
            q₂,
            ← tree_leaves names₂ first ready.accepted_first,
            ← tree_leaves names₂ second ready.accepted_second,
            ← tree_balls names₂ first ready.accepted_first,
            ← tree_balls names₂ second ready.accepted_second,
          )
          (in_room u (two_stand surfaces (tree_of names₂ first) (tree_of names₂ second)) ready.scene.accepted_universe)

      pub two_whole : WholeJob u surfaces side work₂ (length first + length second) starts₂ lent
      unfolding all_postfix count_leaves
      two_whole =
          record {
            scene = ready.scene;
            trees = two_trees surfaces first second;
            few = two (words_carried names₂ first ready.accepted_first) (words_carried names₂ second ready.accepted_second);
            counted = omega (
              arith,
              counted_first,
              counted_second,
              length-append (postfix plain_first) (postfix plain_second ++ []),
              length-append
                  (postfix plain_second) [],
            );
            short = omega (arith, accepted_length names₂ first ready.accepted_first, accepted_length names₂ second ready.accepted_second);
            holds = holds_both;
            standing = stands ready.scene e;
            enough = rw same_long ready.enough;
            bounded = rw same_long ready.bounded;
            starts_long = f.starts_long;
            suffices = omega (arith, two_in_room, a);
          }

      pub two_ended : (m : Bool) (out : List ℕ) {r : ConversionAnswer} {out' : List ℕ} →
          Ended out (symbols_of m u surfaces two_whole.trees) (nodes_looked u surfaces two_whole.trees) r out' →
          Ended out (written_of_two m u surfaces first second) (nodes_looked u surfaces (two_trees surfaces first second)) r out'
      unfolding two_whole written_of_two
      two_ended m out k = rw (same_symbols u (two_stand surfaces (tree_of names₂ first) (tree_of names₂ second)) m) at k

-- ---- the checks and the work room, by what calls gave: of one tree
needed_few : {left words : ℕ} (u : Universe) → left ≡ levels_answer u → words ≤ 510 → (left + 1) * words ≤ suc most_levels * 510
needed_few {left} u l h = let a : left + 1 ≤ suc most_levels = omega (arith, l, levels_answered u) in mul-le-mul a h

module _ (u : Universe) (surfaces : Surfaces) (words : List ℕ) (e : 0 ≡ two_trees_refusal u surfaces words black_words) where
  pub one_zero : one_tree_refusal u surfaces words ≡ 0
  one_zero = sym (e ∙ one_refusal u surfaces words)

  abbrev checks : SoundScene u surfaces × ((tree_refusal (named surfaces) words ≡ 0) × (tree_refusal (named surfaces) black_words ≡ 0))
  checks = all_accepted u surfaces words black_words (sym e)

  module _ {left : ℕ} (l : left ≡ levels_answer u) where
    pub one_levels : left ≤ most_levels
    one_levels = omega (arith, l, levels_answered u)

    pub one_few : (left + 1) * length words ≤ suc most_levels * 510
    one_few = needed_few u l (omega (arith, accepted_length (named surfaces) words checks.1.0))

    pub one_needed : (left + 1) * length words ≡ nodes_needed u (length words)
    one_needed = ap (λ (k : ℕ). (k + 1) * length words) (levels_told u refl checks.0.accepted_universe l)

    pub one_ready : {work : List ℤ} → (left + 1) * length words ≤ nodes_lent work → length work < 2 ^ 60 → OneReady u surfaces words work
    one_ready h b = record { scene = checks.0; accepted = checks.1.0; enough = omega (arith, one_needed); bounded = b }

-- of two
module _ (u : Universe) (surfaces : Surfaces) (first second : List ℕ) (e : 0 ≡ two_trees_refusal u surfaces first second) where
  abbrev checks₂ : SoundScene u surfaces × ((tree_refusal (named surfaces) first ≡ 0) × (tree_refusal (named surfaces) second ≡ 0))
  checks₂ = all_accepted u surfaces first second (sym e)

  pub two_words : length first + length second ≤ 510
  two_words = omega (arith, accepted_length (named surfaces) first checks₂.1.0, accepted_length (named surfaces) second checks₂.1.1)

  module _ {left : ℕ} (l : left ≡ levels_answer u) where
    pub two_levels : left ≤ most_levels
    two_levels = omega (arith, l, levels_answered u)

    pub two_few : (left + 1) * (length first + length second) ≤ suc most_levels * 510
    two_few = needed_few u l two_words

    pub two_needed : (left + 1) * (length first + length second) ≡ nodes_needed u (length first + length second)
    two_needed = ap (λ (k : ℕ). (k + 1) * (length first + length second)) (levels_told u refl checks₂.0.accepted_universe l)

    pub two_ready : {work : List ℤ} → (left + 1) * (length first + length second) ≤ nodes_lent work → length work < 2 ^ 60 →
        TwoReady u surfaces first second work
    two_ready h b =
        record { scene = checks₂.0; accepted_first = checks₂.1.0; accepted_second = checks₂.1.1; enough = omega (arith, two_needed); bounded = b }

-- ---- the flag
module _ (u : Universe) (surfaces : Surfaces) (words : List ℕ) (work : List ℤ) (out : List ℕ) where
  abbrev OneEnds : Bool → ConversionAnswer → List ℕ → List ℤ → Type 0
  OneEnds m r out' work' = Converted (one_tree_refusal u surfaces words) work (nodes_needed u (length words)) out (written_of_one m u surfaces words)
      (nodes_looked u surfaces (one_tree surfaces words)) r out' work'

  abbrev KeptOne : List ℤ → Type 0
  KeptOne work' = (work_of_one u surfaces words work ≡ 0 → ⊥) → work' ≡ work

  pub raw_one_lem : {r : ConversionAnswer} {out' : List ℕ} {work' : List ℤ} → OneEnds false r out' work' →
      (r ≡ raw_of_one_answer u surfaces words work out) × ((out' ≡ raw_of_one_buffer u surfaces words work out) × KeptOne work')
  unfolding raw_of_one_answer raw_of_one_buffer written_of_one raw_of_one shaped
  raw_one_lem c = (c.answer, (c.room, c.kept))

  pub merged_one_lem : {r : ConversionAnswer} {out' : List ℕ} {work' : List ℤ} → OneEnds true r out' work' →
      (r ≡ merged_of_one_answer u surfaces words work out) × ((out' ≡ merged_of_one_buffer u surfaces words work out) × KeptOne work')
  unfolding merged_of_one_answer merged_of_one_buffer written_of_one merged_of_one shaped
  merged_one_lem c = (c.answer, (c.room, c.kept))

module _ (u : Universe) (surfaces : Surfaces) (first second : List ℕ) (work : List ℤ) (out : List ℕ) where
  abbrev TwoEnds : Bool → ConversionAnswer → List ℕ → List ℤ → Type 0
  TwoEnds m r out' work' = Converted (two_trees_refusal u surfaces first second) work (nodes_needed u (length first + length second)) out
      (written_of_two m u surfaces first second) (nodes_looked u surfaces (two_trees surfaces first second)) r out' work'

  abbrev KeptTwo : List ℤ → Type 0
  KeptTwo work' = (work_of_two u surfaces first second work ≡ 0 → ⊥) → work' ≡ work

  pub raw_two_lem : {r : ConversionAnswer} {out' : List ℕ} {work' : List ℤ} → TwoEnds false r out' work' →
      (r ≡ raw_of_two_answer u surfaces first second work out) × ((out' ≡ raw_of_two_buffer u surfaces first second work out) × KeptTwo work')
  unfolding raw_of_two_answer raw_of_two_buffer written_of_two raw_of_two shaped
  raw_two_lem c = (c.answer, (c.room, c.kept))

  pub merged_two : {r : ConversionAnswer} {out' : List ℕ} {work' : List ℤ} → TwoEnds true r out' work' →
      (r ≡ merged_of_two_answer u surfaces first second work out) × ((out' ≡ merged_of_two_buffer u surfaces first second work out) × KeptTwo work')
  unfolding merged_of_two_answer merged_of_two_buffer written_of_two merged_of_two shaped
  merged_two c = (c.answer, (c.room, c.kept))
