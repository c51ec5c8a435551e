-- The answers of the conversions. The first check that refuses is the answer's number, and where none refuses the recursion is ready. Room that is as
-- large as the formula says suffices; else what was written into scratch room is copied, or written once more.
use Prim.Native.Nat.{ℕ, ◌+◌, ◌≤◌, ◌<◌}
use mathlib.Core.Path.{◌≡◌, refl, sym, ap, ◌∙◌}
use mathlib.Core.Bool.{Bool, true, false}
use mathlib.Core.List.{List, [], ◌∷◌}
use native.Mathlib.Decide.{ℕ_discrete}
use native.Mathlib.Omega.{arith}
use borrow.Author.Tests.{eq-eqb, ne_eqb}
use lib.ListN.{length, replicate, take}
use lib.Seq.{sets, length-sets}
use Rattle.universe.specs.declared.Universe.{Universe}
use Rattle.universe.specs.Refusals.{first_refusal}
use Rattle.universe.specs.Universe.{most_axes, universe_refusal}
use Rattle.universe.specs.Questions.{levels_answer, axes_left}
use Rattle.std.specs.Prelude.{Result, Ok, Err}
use Rattle.std.specs.Result.{result_unwrap_or}
use Rattle.universe.specs.declared.refusal.Refusal.{Refusal}
use Rattle.universe.specs.Told.{RoomAnswer, room_told}
use Rattle.universe.specs.Room.{room, room_answer}
use Rattle.universe.proofs.Questions.{levels_told}
use Rattle.bintree.specs.Shape.{Shape, symbols}
use Rattle.bintree.specs.Walks.{noted, laid}
use Rattle.bintree.specs.Told.{WrittenAnswer}
use Rattle.bintree.specs.Answers.{refused_writing, short_writing, done_writing, written_answer, written_buffer}
use Rattle.bintree.proofs.Shape.{length_symbols}
use Rattle.bintree.proofs.Lays.{laid_noted}
use Rattle.bintree.proofs.Answers.{written_refused, kept_refused, written_short, kept_short, written_all, left_all}
use Rattle.lemmas.proofs.Stores.{sets_first, sets_front}
use Rattle.csg.specs.Halfspace.{rows_refusal}
use Rattle.csg.specs.Ball.{balls_refusal}
use Rattle.csg.specs.Surfaces.{Surfaces, named}
use Rattle.csg.specs.Tree.{count_leaves}
use Rattle.csg.specs.Words.{tree_refusal, halfspace_words, ball_words}
use Rattle.csg.specs.Raw.{raw}
use Rattle.csg.proofs.Words.{accepted_length, tree_leaves, tree_balls}
use Rattle.demands.proofs.Room.{raw_room}
use Rattle.convert.specs.declared.lay.Piece.{Piece}
use Rattle.convert.specs.Blocks.{Ready, RoomReady, Standing, trees_of, whole_sides}
use Rattle.convert.specs.Shapes.{shape_of, shaped, laid_shape, piece_of, Laying}
use Rattle.convert.specs.Answers.{two_trees_checks, two_trees_refusal, raw_of_two, merged_of_two, written_of_two}
use Rattle.convert.specs.Answers.{raw_of_two_answer, raw_of_two_buffer, merged_of_two_answer, merged_of_two_buffer}
use Rattle.convert.proofs.Blocks.{whole_standing, whole_is}
use Rattle.convert.proofs.Shapes.{shape_small, shaped_size}

-- ---- the checks: where none refuses, the recursion is ready
-- checks that give 0 all accept: the first does, and so do the others
first_zero : (n : ℕ) (ns : List ℕ) → first_refusal (n ∷ ns) ≡ 0 → (n ≡ 0) × (first_refusal ns ≡ 0)
first_zero n ns e = by (ℕ_discrete n 0)
  where
    by : Dec (n ≡ 0) → (n ≡ 0) × (first_refusal ns ≡ 0)
    by (yes z) = (z, rw (eq-eqb n 0 z) at e)
    by (no h) = absurd (h (rw (ne_eqb n 0 h) at e))

pub ready_of : (u : Universe) (surfaces : Surfaces) (first second : List ℕ) → 0 ≡ two_trees_refusal u surfaces first second → Ready u surfaces first second
unfolding two_trees_checks
ready_of u surfaces first second e =
    let last : List ℕ = tree_refusal (named surfaces) second ∷ [] in
    let trees : List ℕ = tree_refusal (named surfaces) first ∷ last in
    let balls : List ℕ = balls_refusal u surfaces.balls ∷ trees in
    let a = first_zero (universe_refusal u) (rows_refusal u surfaces.rows ∷ balls) (sym e) in
    let b = first_zero (rows_refusal u surfaces.rows) balls a.1 in
    let c = first_zero (balls_refusal u surfaces.balls) trees b.1 in
    let d = first_zero (tree_refusal (named surfaces) first) last c.1 in
    let f = first_zero (tree_refusal (named surfaces) second) [] d.1 in
    record { accepted_universe = a.0; accepted_rows = b.0; accepted_balls = c.0; accepted_first = d.0; accepted_second = f.0 }

-- ---- the whole universe's block, and what its recursion writes
module _ {u : Universe} {surfaces : Surfaces} {first second : List ℕ} (r : Ready u surfaces first second) where
  pub standing : {left : ℕ} {side : List ℕ} → left ≡ levels_answer u → side ≡ whole_sides u → Standing u left (replicate most_axes 0) side
  standing l e = rw (levels_told u refl r.accepted_universe l, e) (whole_standing u r.accepted_universe)

  pub laying : {left : ℕ} {side axes : List ℕ} → left ≡ levels_answer u → side ≡ whole_sides u → axes ≡ axes_left u →
      Laying u surfaces first second axes left (replicate most_axes 0) side 0
  laying l e o = record { ready = r; order = o; standing = standing l e; fits = omega (arith, shape_small r (standing l e)) }

  module _ (m : Bool) {left : ℕ} (l : left ≡ levels_answer u) where
    abbrev written : List ℕ
    written = written_of_two m u surfaces first second

    abbrev whole_shape : Shape
    whole_shape = laid_shape m u surfaces first second left (replicate most_axes 0)

    whole_symbols : symbols whole_shape ≡ written
    unfolding shape_of written_of_two
    whole_symbols = rw (levels_told u refl r.accepted_universe l, whole_is u)

    module _ {piece : Piece} (p : piece ≡ piece_of 0 whole_shape) where
      pub piece_length : piece.end ≡ length written
      piece_length = omega (arith, ap (λ (x : Piece). x.end) p, length_symbols whole_shape, ap length whole_symbols)

      pub noted_whole : (out : List ℕ) {one now : List ℕ} → one ≡ laid out 0 whole_shape → now ≡ noted one 0 piece.held → now ≡ sets out 0 written
      noted_whole out f g = g ∙ rw (f, ap (λ (x : Piece). x.held) p) (laid_noted out 0 whole_shape) ∙ ap (sets out 0) whole_symbols

  -- ---- room that is as large as the formula says suffices
  module _ (m : Bool) where
    abbrev room_of : ℕ
    room_of = room u (halfspace_words first + halfspace_words second) (ball_words first + ball_words second)

    in_room : length (written_of_two m u surfaces first second) ≤ room_of
    unfolding written_of_two count_leaves
    in_room =
        let s = raw u surfaces (trees_of surfaces first second) in
        let e = raw_room u r.accepted_universe surfaces (trees_of surfaces first second) in
        rw (
          ← tree_leaves (named surfaces) first r.accepted_first,
          ← tree_leaves (named surfaces) second r.accepted_second,
          ← tree_balls (named surfaces) first r.accepted_first,
          ← tree_balls (named surfaces) second r.accepted_second,
        )
        (omega (arith, e, shaped_size m s, length_symbols s, length_symbols (shaped m s)))

    pub room_suffices : {x lent k : ℕ} → x ≡ room_of → x ≤ lent → k ≡ length (written_of_two m u surfaces first second) → k ≤ lent
    room_suffices e h l = omega (arith, in_room)

  pub room_ready : RoomReady u first second
  room_ready =
      record {
        accepted_universe = r.accepted_universe;
        first_few = accepted_length (named surfaces) first r.accepted_first;
        second_few = accepted_length (named surfaces) second r.accepted_second;
      }

-- room, as what the room question answers tells it
symbols_told : (answer : Result ℕ Refusal) → result_unwrap_or answer 0 ≡ (room_told answer).symbols
symbols_told (Ok symbols) = refl
symbols_told (Err r) = refl

-- for leaves and balls that calls counted
pub room_is : (u : Universe) (first second : List ℕ) (answer : Result ℕ Refusal) {x y b d : ℕ} → universe_refusal u ≡ 0 →
    x ≡ halfspace_words first → y ≡ halfspace_words second → b ≡ ball_words first → d ≡ ball_words second → room_told answer ≡ room_answer u (x + y) (b + d) →
    result_unwrap_or answer 0 ≡ room u (halfspace_words first + halfspace_words second) (ball_words first + ball_words second)
unfolding room_answer
room_is u first second answer z p q s t e =
    symbols_told answer ∙ ap (λ (a : RoomAnswer). a.symbols) e ∙ rw (eq-eqb (universe_refusal u) 0 z, p, q, s, t)

-- ---- the ends of a conversion that writes these symbols
module _ (out written : List ℕ) where
  -- its answer and the room as it leaves it, where the checks before 6 give n
  abbrev pub Ends : ℕ → WrittenAnswer → List ℕ → Type 0
  Ends n answer now = (answer ≡ written_answer n out written) × (now ≡ written_buffer n out written)

  -- a refusal by the checks, which gave m
  pub ends_refused : {m n : ℕ} → m ≡ n → (m ≡ 0 → ⊥) → {answer : WrittenAnswer} → answer ≡ refused_writing m → Ends n answer out
  ends_refused {m} e h a = rw (a, ← e) (written_refused m out written h, kept_refused m out written h)

  -- where they gave 0, the answer after them is the answer
  pub ends_accepted : {m n : ℕ} → m ≡ n → m ≡ 0 → {answer : WrittenAnswer} {now : List ℕ} → Ends 0 answer now → Ends n answer now
  ends_accepted e z p = rw (sym e ∙ z) p

  module _ {k : ℕ} (e : k ≡ length written) where
    -- too little room for k symbols
    pub ends_short : length out < k → {answer : WrittenAnswer} → answer ≡ short_writing k → Ends 0 answer out
    ends_short h a = rw (a, e) (written_short 0 out written refl (omega arith), kept_short 0 out written refl (omega arith))

    -- k symbols written
    pub ends_written : {now : List ℕ} → k ≤ length out → now ≡ sets out 0 written → {answer : WrittenAnswer} → answer ≡ done_writing k → Ends 0 answer now
    ends_written f h a =
        let g : length written ≤ length out = omega arith in
        rw (a, e, h) (written_all 0 out written refl g, sets_first written out g ∙ left_all 0 out written refl g)

    -- the same by way of scratch room that holds them all
    pub ends_copied : (scratch before : List ℕ) {now : List ℕ} → k ≤ length out → k ≤ length scratch → scratch ≡ sets before 0 written →
        now ≡ sets out 0 (take k scratch) → {answer : WrittenAnswer} → answer ≡ done_writing k → Ends 0 answer now
    ends_copied scratch before f g s p a =
        let h : length written ≤ length before = omega (arith, ap length s, length-sets before 0 written) in
        let same : take k scratch ≡ written = rw (e, s) (sets_front written before h) in
        ends_written f (p ∙ ap (sets out 0) same) a

-- ---- the two conversions, by their flag
module _ (u : Universe) (surfaces : Surfaces) (first second : List ℕ) where
  pub raw_written : written_of_two false u surfaces first second ≡ raw_of_two u surfaces first second
  unfolding written_of_two raw_of_two shaped
  raw_written = refl

  pub merged_written : written_of_two true u surfaces first second ≡ merged_of_two u surfaces first second
  unfolding written_of_two merged_of_two shaped
  merged_written = refl

  module _ (out : List ℕ) {r : WrittenAnswer} {now : List ℕ} where
    pub raw_ends : Ends out (written_of_two false u surfaces first second) (two_trees_refusal u surfaces first second) r now →
        (r ≡ raw_of_two_answer u surfaces first second out) × (now ≡ raw_of_two_buffer u surfaces first second out)
    unfolding raw_of_two_answer raw_of_two_buffer
    raw_ends e = rw raw_written at e

    pub merged_ends : Ends out (written_of_two true u surfaces first second) (two_trees_refusal u surfaces first second) r now →
        (r ≡ merged_of_two_answer u surfaces first second out) × (now ≡ merged_of_two_buffer u surfaces first second out)
    unfolding merged_of_two_answer merged_of_two_buffer
    merged_ends e = rw merged_written at e
