-- WHERE A MOVER HAS EVER BEEN, of the call itself: what it writes is black exactly below the black voxels of what it was given, is the only shortest that
-- is, and
-- fits where as much room is lent as that is long (`SweptSpace`, specs/Swept.antt). Of the conversion of a mover's tree, swept along the frame axis, these
-- are the
-- places at whose centre the mover is at some frame; and the sweep of a union is the union of the sweeps.
use Prim.Native.Nat.{ℕ, ◌-◌, ◌≤◌, ◌<◌}
use mathlib.Core.Path.{◌≡◌, refl, sym, ap, ◌∙◌}
use mathlib.Core.List.{List, [], ◌∷◌, ◌++◌}
use native.Mathlib.Omega.{arith}
use lib.ListN.{length, take, drop}
use lib.Seq.{take-append_seam, drop-append_seam}
use Rattle.universe.specs.declared.Universe.{Universe}
use Rattle.universe.specs.Universe.{universe_refusal, levels, order, frame_axis, without_axis}
use Rattle.universe.specs.Questions.{without_answer}
use Rattle.universe.specs.Voxel.{voxel_refusal}
use Rattle.universe.proofs.Questions.{OneOf, one_of, accepted_one}
use Rattle.universe.proofs.Without.{without_accepted}
use Rattle.bintree.specs.declared.Colour.{Colour}
use Rattle.bintree.specs.declared.Colour.TheVariants.{White, Black}
use Rattle.bintree.specs.Told.{WrittenAnswer}
use Rattle.bintree.specs.Shape.{Shape, symbols, depth}
use Rattle.bintree.specs.Reading.{read, expression, expression_refusal}
use Rattle.bintree.specs.Merging.{merged}
use Rattle.bintree.specs.Parts.{colour_at}
use Rattle.bintree.specs.Answers.{of_shape, refused_writing, short_writing, done_writing}
use Rattle.bintree.proofs.Reading.{read_is, reads_back, accepted_shape}
use Rattle.bintree.proofs.Merging.{merged_merged}
use Rattle.bintree.proofs.Answers.{checks_read}
use Rattle.csg.specs.Surfaces.{Surfaces, named}
use Rattle.csg.specs.Tree.{Tree, node, union, plain}
use Rattle.csg.specs.Words.{tree_of}
use Rattle.csg.specs.Marks.{union_colour, plain_colour, tree_colour}
use Rattle.demands.specs.Shortest.{Has, Fewest}
use Rattle.demands.proofs.Shortest.{shape_fewest}
use Rattle.convert.specs.Answers.{one_tree_refusal, merged_of_one_answer, merged_of_one_buffer}
use Rattle.sweep.specs.Told.{SweptAnswer}
use Rattle.sweep.specs.Sweeping.{swept}
use Rattle.sweep.specs.Voxels.{voxel_over, BlackOver, Sweeps}
use Rattle.sweep.specs.Answers.{Ready, swept_refusal, swept_shape, swept_symbols, of_universe, swept_answer, swept_buffer}
use Rattle.sweep.proofs.Voxels.{merged_sweeps, merged_swept_deep, over_accepted}
use Rattle.sweep.proofs.Answers.{no_longer}
use Rattle.promises.specs.Shortest.{colours_of, Says}
use Rattle.promises.specs.Swept.{SaysSwept, SweptSpace}
use Rattle.promises.proofs.Keeping.{first_accepts, colour_accepted, at_its_end}
use Rattle.promises.proofs.Promises.{passed}
use Rattle.promises.proofs.Shortest.{colour_told, has, merged_of_one_shortest}

-- ---- colours that sweep

-- two colours that are black together are one
black_alike : (c d : Colour) → (c ≡ Black → d ≡ Black) → (d ≡ Black → c ≡ Black) → c ≡ d
black_alike Black d f g = sym (f refl)
black_alike White Black f g = g refl
black_alike White White f g = refl

module _ (u : Universe) (j : ℕ) (fine : universe_refusal u ≡ 0) (two : 2 ≤ u.axes) (there : j < u.axes) where
  -- what has the colours of a sweep, of what has the colours that are swept, is one too
  pub sweeps_alike : {c c' b b' : List ℕ → Colour} → Sweeps u j c b → ((v : List ℕ) → voxel_refusal u v ≡ 0 → c' v ≡ c v) →
      ((w : List ℕ) → voxel_refusal (without_axis u j) w ≡ 0 → b' w ≡ b w) → Sweeps u j c' b'
  sweeps_alike {c} {c'} {b} {b'} s e g = record {
    black_over = λ w f h.
        let r = s.black_over w f (sym (g w f) ∙ h) in
        record {
          place = r.place;
          inside = r.inside;
          black = e (voxel_over j r.place w) (over_accepted u j fine two there r.place w f r.inside)
              ∙ r.black;
        };
    over_black = λ w f r.
        g w f
        ∙ s.over_black w f
        (record {
          place = r.place;
          inside = r.inside;
          black =
              sym (e (voxel_over j r.place w) (over_accepted u j fine two there r.place w f r.inside)) ∙ r.black;
        });
  }

  -- and two sweeps of the same colours have the same colours
  pub sweeps_once : {c a b : List ℕ → Colour} → Sweeps u j c a → Sweeps u j c b → (w : List ℕ) → voxel_refusal (without_axis u j) w ≡ 0 → a w ≡ b w
  sweeps_once {c} {a} {b} s t w f =
      black_alike (a w) (b w) (λ e. t.over_black w f (s.black_over w f e)) (λ e. s.over_black w f (t.black_over w f e))

  -- THE SWEEP OF A UNION IS THE UNION OF THE SWEEPS
  pub union_swept : {c d a b both : List ℕ → Colour} → Sweeps u j c a → Sweeps u j d b → Sweeps u j (λ v. union_colour (c v) (d v)) both →
      (w : List ℕ) → voxel_refusal (without_axis u j) w ≡ 0 → both w ≡ union_colour (a w) (b w)
  unfolding union_colour
  union_swept {c} {d} {a} {b} {both} s t q w f =
      black_alike (both w) (union_colour (a w) (b w)) (λ e. from (q.black_over w f e)) (λ e. q.over_black w f (back (a w) refl e))
    where
      from_one : (x y : Colour) → union_colour x y ≡ Black → (x ≡ Black → union_colour (a w) (b w) ≡ Black) → (y ≡ Black → union_colour (a w) (b w) ≡ Black) →
          union_colour (a w) (b w) ≡ Black
      from_one Black y e l r = l refl
      from_one White y e l r = r e

      left : (x y : Colour) → x ≡ Black → union_colour x y ≡ Black
      left Black y e = refl
      left White y e = absurd (never e)
        where
          never : White ≡ Black → ⊥
          never e = let z : ◌≡◌ {A = ℕ} 0 1 = cc in omega arith

      right : (x y : Colour) → y ≡ Black → union_colour x y ≡ Black
      right Black y e = refl
      right White y e = e

      from : BlackOver u j (λ v. union_colour (c v) (d v)) w → union_colour (a w) (b w) ≡ Black
      from r =
          let v = voxel_over j r.place w in
          from_one (c v) (d v) r.black
          (λ e. left (a w) (b w) (s.over_black w f (record { place = r.place; inside = r.inside; black = e })))
          (λ e. right (a w) (b w) (t.over_black w f (record { place = r.place; inside = r.inside; black = e })))

      back : (x : Colour) → a w ≡ x → union_colour (a w) (b w) ≡ Black → BlackOver u j (λ v. union_colour (c v) (d v)) w
      back Black e h =
          let r = s.black_over w f e in
          record { place = r.place; inside = r.inside; black = left (c (voxel_over j r.place w)) (d (voxel_over j r.place w)) r.black }
      back White e h =
          let r = t.black_over w f (sym (ap (λ x. union_colour x (b w)) e) ∙ h) in
          record { place = r.place; inside = r.inside; black = right (c (voxel_over j r.place w)) (d (voxel_over j r.place w)) r.black }

  -- of two trees
  pub union_of_trees : (surfaces : Surfaces) (s t : Tree) {a b both : List ℕ → Colour} →
      Sweeps u j (tree_colour surfaces u s) a → Sweeps u j (tree_colour surfaces u t) b → Sweeps u j (tree_colour surfaces u (node union s t)) both →
      (w : List ℕ) → voxel_refusal (without_axis u j) w ≡ 0 → both w ≡ union_colour (a w) (b w)
  unfolding plain plain_colour
  union_of_trees surfaces s t = union_swept

-- ---- an expression that is accepted

module _ (u : Universe) (s : List ℕ) (axis : ℕ) (z : swept_refusal u s axis ≡ 0) where
  abbrev j : ℕ
  j = axis - 1

  abbrev below : Universe
  below = without_axis u j

  checks : (universe_refusal (without_answer u axis) ≡ 0) × (expression_refusal u s ≡ 0)
  checks =
      let a = first_accepts (universe_refusal (without_answer u axis)) (expression_refusal u s ∷ []) z in
      (a.0, (first_accepts (expression_refusal u s) [] a.1).0)

  ready : Ready u s axis
  ready =
      let a = accepted_shape u s checks.1 in
      record { one = accepted_one u axis checks.0; shape = a.0; reads = a.1 }

  one : OneOf u axis
  one = one_of u axis ready.one

  there : j < u.axes
  there = omega (arith, one.some, one.few)

  below_is : without_answer u axis ≡ below
  unfolding without_answer
  below_is = rw ready.one

  below_fine : universe_refusal below ≡ 0
  below_fine = without_accepted u j one.two there one.fine

  -- the swept shape, as it is and merged
  abbrev shape : Shape
  shape = swept (order u) j ready.shape

  deep : depth ready.shape ≤ levels u
  deep = (read_is u s ready.shape ready.reads).1

  written_is : swept_symbols u s axis ≡ symbols (merged shape)
  written_is = ap (λ x. of_shape x [] (λ a. symbols (swept_shape u axis a))) ready.reads

  reads : expression below (swept_symbols u s axis) ≡ read (merged shape)
  reads = rw written_is (reads_back below (merged shape) (merged_swept_deep u j one.fine one.two there ready.shape deep))

  -- the colours that the question answers are those of the shapes
  given : (v : List ℕ) → voxel_refusal u v ≡ 0 → colours_of u s v ≡ colour_at u ready.shape v
  given v f = colour_told (colour_accepted u s v ready.shape one.fine ready.reads f)

  told : (y : List ℕ) (a : Shape) → expression below y ≡ read a → (w : List ℕ) → voxel_refusal below w ≡ 0 → colours_of below y w ≡ colour_at below a w
  told y a e w f = colour_told (colour_accepted below y w a below_fine e f)

  written_sweeps : Sweeps u j (colours_of u s) (colours_of below (swept_symbols u s axis))
  written_sweeps =
      sweeps_alike u j one.fine one.two there (merged_sweeps u j one.fine one.two there ready.shape deep) given
      (told (swept_symbols u s axis) (merged shape) reads)

  written_says : SaysSwept u s axis below (swept_symbols u s axis)
  written_says = record {
    well_formed = checks_read below (universe_refusal below) refl (swept_symbols u s axis) (merged shape) below_fine reads;
    swept =
        written_sweeps;
  }

  -- nothing as short has its colours
  abbrev colours : List ℕ → Colour
  colours w = colour_at below (merged shape) w

  fewest : Fewest below colours (swept_symbols u s axis)
  fewest =
      let d = merged_swept_deep u j one.fine one.two there ready.shape deep in
      rw (written_is, ← merged_merged shape) (shape_fewest below below_fine colours (merged shape) d (λ w f. refl))

  said : (y : List ℕ) → SaysSwept u s axis below y → Has below colours y
  said y w =
      has below colours y w.well_formed (λ v f.
      sweeps_once u j one.fine one.two there w.swept written_sweeps v f ∙ told (swept_symbols u s axis) (merged shape) reads v f)

-- THE SWEEP IS FIXED BY COLOURS: raw or merged, expressions with the same colours have one sweep, byte for byte
module _ (u : Universe) (s t : List ℕ) (axis : ℕ) (z : swept_refusal u s axis ≡ 0) (y : swept_refusal u t axis ≡ 0)
    (same : (v : List ℕ) → voxel_refusal u v ≡ 0 → colours_of u s v ≡ colours_of u t v) where
  other_says : SaysSwept u s axis (without_axis u (axis - 1)) (swept_symbols u t axis)
  other_says =
      let w = written_says u t axis y in
      let o = one u s axis z in
      record { well_formed = w.well_formed; swept = sweeps_alike u (axis - 1) o.fine o.two (there u s axis z) w.swept same (λ v f. refl) }

  no_shorter : length (swept_symbols u s axis) ≤ length (swept_symbols u t axis)
  no_shorter = (fewest u s axis z).no_longer (swept_symbols u t axis) (said u s axis z (swept_symbols u t axis) other_says)

pub swept_by_colours : (u : Universe) (s t : List ℕ) (axis : ℕ) → swept_refusal u s axis ≡ 0 → swept_refusal u t axis ≡ 0 →
    ((v : List ℕ) → voxel_refusal u v ≡ 0 → colours_of u s v ≡ colours_of u t v) → swept_symbols u s axis ≡ swept_symbols u t axis
swept_by_colours u s t axis z y same =
    let l = no_shorter u s t axis z y same in
    let m = no_shorter u t s axis y z (λ v f. sym (same v f)) in
    (fewest u s axis z).only (swept_symbols u t axis) (said u s axis z (swept_symbols u t axis) (other_says u s t axis z y same)) (omega arith)

-- ---- the call

module _ (u : Universe) (s : List ℕ) (axis : ℕ) (out : List ℕ) where
  abbrev Claim : WrittenAnswer → List ℕ → Type 0
  Claim w left = SweptSpace u s axis out (of_universe (without_answer u axis) w) left

  refused : (swept_refusal u s axis ≡ 0 → ⊥) → Claim (refused_writing (swept_refusal u s axis)) out
  refused n = record {
    kept = λ h. refl;
    behind = λ z. refl;
    below = λ z. absurd (n z);
    itself = λ z. absurd (n z);
    no_longer = λ z. absurd (n z);
    only = λ z. absurd (n z);
    suffices = λ z. absurd (n z);
  }

  short : swept_refusal u s axis ≡ 0 → length out < length (swept_symbols u s axis) → Claim (short_writing (length (swept_symbols u s axis))) out
  short z h = record {
    kept = λ f. refl;
    behind = λ f. refl;
    below = λ f. absurd (omega arith);
    itself = λ f. absurd (omega arith);
    no_longer = λ f. absurd (omega arith);
    only = λ f. absurd (omega arith);
    suffices = λ f g. absurd (omega (arith, no_longer (ready u s axis z)));
  }

  done : swept_refusal u s axis ≡ 0 → Claim (done_writing (length (swept_symbols u s axis))) (swept_symbols u s axis ++ drop (length (swept_symbols u s axis)) out)
  done z =
      let seam = take-append_seam (swept_symbols u s axis) (drop (length (swept_symbols u s axis)) out) in
      record {
        kept = λ f. absurd (f refl);
        behind = λ f. drop-append_seam (swept_symbols u s axis) (drop (length (swept_symbols u s axis)) out);
        below = λ f. below_is u s axis z;
        itself = λ f. rw (seam, below_is u s axis z) (written_says u s axis z);
        no_longer = λ f y w. (fewest u s axis z).no_longer y (said u s axis z y (rw (below_is u s axis z) at w));
        only = λ f y w e. seam ∙ (fewest u s axis z).only y (said u s axis z y (rw (below_is u s axis z) at w)) e;
        suffices = λ f g. refl;
      }

  -- THE SWEPT SPACE
  pub swept_space : SweptSpace u s axis out (swept_answer u s axis out) (swept_buffer u s axis out)
  unfolding swept_answer swept_buffer
  swept_space = at_its_end (swept_refusal u s axis) out (swept_symbols u s axis) Claim refused short (λ z h. done z)

-- ---- A MOVER: of bytes that say the colours of its tree

module _ (u : Universe) (surfaces : Surfaces) (t : Tree) (x : List ℕ) (tells : Says u (tree_colour surfaces u t) x) where
  -- swept along an axis, they are black exactly where the tree is BLACK at the centre of a voxel over it
  pub tree_swept : (axis : ℕ) (below : Universe) (y : List ℕ) → swept_refusal u x axis ≡ 0 → SaysSwept u x axis below y →
      Sweeps u (axis - 1) (tree_colour surfaces u t) (colours_of below y)
  tree_swept axis below y z w =
      let o = one u x axis z in
      sweeps_alike u (axis - 1) o.fine o.two (there u x axis z) w.swept (λ v f. sym (colour_told (tells.coloured v f))) (λ v f. refl)

-- WHERE THE MOVER HAS EVER BEEN: its tree is converted, and what is written swept along the frame axis, the last one. The result is black at a place exactly if
-- the mover is there, at the place's centre, at some frame
module _ (u : Universe) (surfaces : Surfaces) (words room out : List ℕ) where
  -- the merged conversion of the mover's tree
  abbrev converted : List ℕ
  converted = take (merged_of_one_answer u surfaces words room).length (merged_of_one_buffer u surfaces words room)

  -- the sweep of that
  abbrev answer : SweptAnswer
  answer = swept_answer u converted u.axes out

  abbrev result : List ℕ
  result = take answer.length (swept_buffer u converted u.axes out)

  pub ever_there : one_tree_refusal u surfaces words ≡ 0 → (merged_of_one_answer u surfaces words room).refusal ≡ 0 → answer.refusal ≡ 0 →
      Sweeps u (frame_axis u) (tree_colour surfaces u (tree_of (named surfaces) words)) (colours_of answer.universe result)
  unfolding swept_answer
  ever_there z e f =
      let says = (merged_of_one_shortest u surfaces words room z).itself e in
      let space = swept_space u converted u.axes out in
      tree_swept u surfaces (tree_of (named surfaces) words) converted says u.axes answer.universe result accepts (space.itself f)
    where
      accepts : swept_refusal u converted u.axes ≡ 0
      accepts = passed (swept_refusal u converted u.axes) out (swept_symbols u converted u.axes) f
