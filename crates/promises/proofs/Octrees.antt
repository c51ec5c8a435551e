-- OCTREES, of the calls themselves. What export writes is the only reduced octree with the colours of what it was given, and what import writes has the
-- octree's colours (`Exported`, `Imported`, specs/Octrees.antt). Lent what export left, import leaves the merged expression of what was given; lent what import
-- left, export leaves the reduced octree of what was given.
use Prim.Native.Nat.{ℕ, ◌≤◌}
use mathlib.Core.Path.{◌≡◌, refl, sym, ap, ◌∙◌}
use mathlib.Core.List.{List, [], ◌∷◌}
use native.Mathlib.Omega.{arith}
use lib.ListN.{length, take, drop}
use lib.Seq.{take-append_seam, drop-append_seam}
use Rattle.universe.specs.declared.Universe.{Universe}
use Rattle.universe.specs.Refusals.{first_refusal}
use Rattle.universe.specs.Universe.{universe_refusal, levels}
use Rattle.universe.specs.Voxel.{voxel_refusal}
use Rattle.universe.proofs.Universes.{accepted}
use Rattle.bintree.specs.Shape.{Shape, symbols, depth}
use Rattle.bintree.specs.Reading.{read, expression, expression_refusal}
use Rattle.bintree.specs.Merging.{merged, merged_symbols}
use Rattle.bintree.specs.declared.Colour.TheVariants.{White}
use Rattle.bintree.specs.Parts.{colour_at, done_colour}
use Rattle.bintree.specs.Answers.{of_shape, written_answer, written_buffer}
use Rattle.bintree.proofs.Reading.{read_is, reads_back, accepted_shape, shape_accepted}
use Rattle.bintree.proofs.Merging.{merged_is, merged_depth}
use Rattle.bintree.proofs.Answers.{checks_read}
use Rattle.demands.proofs.Fixed.{merged_once}
use Rattle.octree.specs.Octree.{Octree, AtMost, octree_symbols, Found, nothing, found, of_found, octree_on, octree_colour, reduce, Reduced}
use Rattle.octree.specs.Parting.{octree_of, shape_of}
use Rattle.octree.specs.Answers.{cube_refusal, octree_refusal, export_refusal, import_refusal, export_symbols, import_symbols}
use Rattle.octree.specs.Answers.{export_answer, export_buffer, import_answer, import_buffer, Exportable, Importable}
use Rattle.octree.proofs.Octrees as octrees
use Rattle.octree.proofs.Partings.{octree_most, shape_deep, import_export, export_import, reduced_octree}
use Rattle.octree.proofs.Colours.{Cubic, cubic, cube_levels, import_colour, export_colour}
use Rattle.octree.proofs.Answers.{export_suffices, import_suffices, refused_as, fine_as}
use Rattle.promises.specs.Shortest.{colours_of, Says}
use Rattle.promises.specs.Octrees.{octree_colours, reduced_symbols, ReducedOctree, Exported, Imported}
use Rattle.promises.proofs.Keeping.{first_accepts, colour_accepted, at_its_end}
use Rattle.promises.proofs.Promises.{passed}
use Rattle.promises.proofs.Shortest.{colour_told}

-- ---- what a call that writes leaves at the front

pub front : (before : ℕ) (out written : List ℕ) → (written_answer before out written).refusal ≡ 0 →
    take (written_answer before out written).length (written_buffer before out written) ≡ written
front before out written =
    at_its_end before out written (λ w l. w.refusal ≡ 0 → take w.length l ≡ written)
    (λ n z. absurd (n z)) (λ z h f. absurd (omega arith)) (λ z h f. take-append_seam written (drop (length written) out))

both : (a b : ℕ) → first_refusal (a ∷ b ∷ []) ≡ 0 → (a ≡ 0) × (b ≡ 0)
both a b z = let f = first_accepts a (b ∷ []) z in (f.0, (first_accepts b [] f.1).0)

neither : (a b : ℕ) → a ≡ 0 → b ≡ 0 → first_refusal (a ∷ b ∷ []) ≡ 0
neither a b e f = rw (e, f)

module _ (u : Universe) (s : List ℕ) where
  pub is_exportable : export_refusal u s ≡ 0 → Exportable u s
  is_exportable z =
      let c = both (cube_refusal u) (expression_refusal u s) z in
      let a = accepted_shape u s c.1 in
      record { cube = c.0; shape = a.0; reads = a.1 }

  pub is_importable : import_refusal u s ≡ 0 → Importable u s
  is_importable z = go (octree_on u.bits s) refl
    where
      go : (y : Found Octree) → octree_on u.bits s ≡ y → Importable u s
      go nothing e = absurd (omega (arith, refused_as u.bits s e, (both (cube_refusal u) (octree_refusal u.bits s) z).1))
      go (found o q) e = record { cube = (both (cube_refusal u) (octree_refusal u.bits s) z).0; octree = o; past = q; reads = e }

-- ---- THE ONLY REDUCED OCTREE: two that have the same colours are one

pub reduced_once : (u : Universe) → Cubic u → {o p : Octree} → AtMost u.bits o → AtMost u.bits p → Reduced o → Reduced p →
    ((v : List ℕ) → voxel_refusal u v ≡ 0 → octree_colour u.bits o v ≡ octree_colour u.bits p v) → o ≡ p
reduced_once u c {o} {p} m n r q same =
    let d : depth (merged (shape_of o)) ≤ levels u = omega (arith, merged_depth (shape_of o), shape_deep m, cube_levels u c) in
    let e : depth (merged (shape_of p)) ≤ levels u = omega (arith, merged_depth (shape_of p), shape_deep n, cube_levels u c) in
    sym (reduced_octree m r)
    ∙ ap (octree_of u.bits)
    (merged_once u (accepted u c.fine) (merged (shape_of o)) (merged (shape_of p)) d e (merged_is (shape_of o)) (merged_is (shape_of p))
    (λ v f. import_colour u c v m ∙ same v f ∙ sym (import_colour u c v n)))
    ∙ reduced_octree n q

-- ---- an expression that can be exported

module _ {u : Universe} {s : List ℕ} (r : Exportable u s) where
  cu : Cubic u
  cu = cubic u r.cube

  abbrev reduced_of : Octree
  reduced_of = reduce (octree_of u.bits r.shape)

  most : AtMost u.bits reduced_of
  most = octrees.reduce_most (octree_most u.bits r.shape)

  deep : depth r.shape ≤ levels u
  deep = (read_is u s r.shape r.reads).1

  given : (v : List ℕ) → voxel_refusal u v ≡ 0 → colours_of u s v ≡ colour_at u r.shape v
  given v f = colour_told (colour_accepted u s v r.shape cu.fine r.reads f)

  export_is : export_symbols u s ≡ octree_symbols reduced_of
  export_is = ap (λ x. of_shape x [] (λ a. octree_symbols (reduce (octree_of u.bits a)))) r.reads

  export_reads : octree_on u.bits (export_symbols u s) ≡ found reduced_of (length (octree_symbols reduced_of))
  export_reads = rw export_is (octrees.reads_back most)

  same_colours : (v : List ℕ) → voxel_refusal u v ≡ 0 → octree_colour u.bits reduced_of v ≡ colours_of u s v
  same_colours v f = export_colour u cu v r.shape deep ∙ sym (given v f)

  export_itself : ReducedOctree u (colours_of u s) (export_symbols u s)
  export_itself = record {
    octree = reduced_of;
    past = length (octree_symbols reduced_of);
    reads = export_reads;
    reduced = octrees.reduce_reduced (octree_of u.bits r.shape);
    coloured = same_colours;
  }

  export_only : (y : List ℕ) → ReducedOctree u (colours_of u s) y → export_symbols u s ≡ y
  export_only y w =
      let i = octrees.read_is u.bits y w.octree w.past w.reads in
      export_is
      ∙ ap octree_symbols
      (reduced_once u cu most i.1 (octrees.reduce_reduced (octree_of u.bits r.shape)) w.reduced
      (λ v f. same_colours v f ∙ sym (w.coloured v f)))
      ∙ i.0

  export_taken : import_refusal u (export_symbols u s) ≡ 0
  export_taken =
      neither (cube_refusal u) (octree_refusal u.bits (export_symbols u s)) r.cube
      (sym (fine_as u.bits (export_symbols u s) reduced_of (length (octree_symbols reduced_of)) export_reads))

  -- import of what export writes
  there_back : import_symbols u (export_symbols u s) ≡ merged_symbols u s
  there_back =
      ap (λ x. of_found x [] (λ o past. symbols (merged (shape_of o)))) export_reads
      ∙ ap symbols (import_export u.bits r.shape (omega (arith, deep, cube_levels u cu)))
      ∙ sym (ap (λ x. of_shape x [] (λ a. symbols (merged a))) r.reads)

-- ---- an octree that can be imported

module _ {u : Universe} {s : List ℕ} (r : Importable u s) where
  ci : Cubic u
  ci = cubic u r.cube

  abbrev merged_of : Shape
  merged_of = merged (shape_of r.octree)

  own : (octree_symbols r.octree ≡ s) × AtMost u.bits r.octree
  own = octrees.read_is u.bits s r.octree r.past r.reads

  import_is : import_symbols u s ≡ symbols merged_of
  import_is = ap (λ x. of_found x [] (λ o past. symbols (merged (shape_of o)))) r.reads

  merged_deep : depth merged_of ≤ levels u
  merged_deep = omega (arith, merged_depth (shape_of r.octree), shape_deep own.1, cube_levels u ci)

  import_reads : expression u (import_symbols u s) ≡ read merged_of
  import_reads = rw import_is (reads_back u merged_of merged_deep)

  import_itself : Says u (octree_colours u s) (import_symbols u s)
  import_itself = record {
    well_formed = checks_read u (universe_refusal u) refl (import_symbols u s) merged_of ci.fine import_reads;
    coloured = λ v f.
        colour_accepted u (import_symbols u s) v merged_of ci.fine import_reads f
        ∙ ap done_colour
        (import_colour u ci v own.1 ∙ sym (ap (λ x. of_found x White (λ o past. octree_colour u.bits o v)) r.reads));
  }

  import_taken : export_refusal u (import_symbols u s) ≡ 0
  import_taken = neither (cube_refusal u) (expression_refusal u (import_symbols u s)) r.cube (shape_accepted u (import_symbols u s) merged_of import_reads)

  -- export of what import writes
  back_there : export_symbols u (import_symbols u s) ≡ reduced_symbols u s
  back_there =
      ap (λ x. of_shape x [] (λ a. octree_symbols (reduce (octree_of u.bits a)))) import_reads
      ∙ ap octree_symbols (export_import own.1)
      ∙ sym (ap (λ x. of_found x [] (λ o past. octree_symbols (reduce o))) r.reads)

-- ---- the calls

module _ (u : Universe) (s out : List ℕ) where
  -- WHAT EXPORT WRITES
  pub exported : Exported u s out (export_answer u s out) (export_buffer u s out)
  unfolding export_answer export_buffer
  exported =
      at_its_end (export_refusal u s) out (export_symbols u s) (Exported u s out)
      (λ n. record {
        kept = λ h. refl;
        behind = λ z. refl;
        itself = λ z. absurd (n z);
        only = λ z. absurd (n z);
        taken = λ z. absurd (n z);
        suffices = λ z. absurd (n z);
      })
      (λ z h. record {
        kept = λ f. refl;
        behind = λ f. refl;
        itself = λ f. absurd (omega arith);
        only = λ f. absurd (omega arith);
        taken = λ f. absurd (omega arith);
        suffices = λ f g. absurd (omega (arith, export_suffices (is_exportable u s z)));
      })
      (λ z h.
      let r = is_exportable u s z in
      let seam = take-append_seam (export_symbols u s) (drop (length (export_symbols u s)) out) in
      record {
        kept = λ f. absurd (f refl);
        behind = λ f. drop-append_seam (export_symbols u s) (drop (length (export_symbols u s)) out);
        itself = λ f. rw seam (export_itself r);
        only = λ f y w. seam ∙ export_only r y w;
        taken = λ f. rw seam (export_taken r);
        suffices = λ f g. refl;
      })

  -- WHAT IMPORT WRITES
  pub imported : Imported u s out (import_answer u s out) (import_buffer u s out)
  unfolding import_answer import_buffer
  imported =
      at_its_end (import_refusal u s) out (import_symbols u s) (Imported u s out)
      (λ n. record { kept = λ h. refl; behind = λ z. refl; itself = λ z. absurd (n z); taken = λ z. absurd (n z); suffices = λ z. absurd (n z) })
      (λ z h. record {
        kept = λ f. refl;
        behind = λ f. refl;
        itself = λ f. absurd (omega arith);
        taken = λ f. absurd (omega arith);
        suffices = λ f g. absurd (omega (arith, import_suffices (is_importable u s z)));
      })
      (λ z h.
      let r = is_importable u s z in
      let seam = take-append_seam (import_symbols u s) (drop (length (import_symbols u s)) out) in
      record {
        kept = λ f. absurd (f refl);
        behind = λ f. drop-append_seam (import_symbols u s) (drop (length (import_symbols u s)) out);
        itself = λ f. rw seam (import_itself r);
        taken = λ f. rw seam (import_taken r);
        suffices = λ f g. refl;
      })

  -- THERE AND BACK: import, lent what export left, leaves the merged expression of what was given
  abbrev sent : List ℕ
  sent = take (export_answer u s out).length (export_buffer u s out)

  pub import_after_export : (room : List ℕ) → (export_answer u s out).refusal ≡ 0 → (import_answer u sent room).refusal ≡ 0 →
      take (import_answer u sent room).length (import_buffer u sent room) ≡ merged_symbols u s
  unfolding export_answer export_buffer import_answer import_buffer
  import_after_export room e f =
      let r = is_exportable u s (passed (export_refusal u s) out (export_symbols u s) e) in
      front (import_refusal u sent) room (import_symbols u sent) f
      ∙ ap (import_symbols u) (front (export_refusal u s) out (export_symbols u s) e)
      ∙ there_back r

  -- and export, lent what import left, leaves the reduced octree of what was given
  abbrev got : List ℕ
  got = take (import_answer u s out).length (import_buffer u s out)

  pub export_after_import : (room : List ℕ) → (import_answer u s out).refusal ≡ 0 → (export_answer u got room).refusal ≡ 0 →
      take (export_answer u got room).length (export_buffer u got room) ≡ reduced_symbols u s
  unfolding export_answer export_buffer import_answer import_buffer
  export_after_import room e f =
      let r = is_importable u s (passed (import_refusal u s) out (import_symbols u s) e) in
      front (export_refusal u got) room (export_symbols u got) f
      ∙ ap (export_symbols u) (front (import_refusal u s) out (import_symbols u s) e)
      ∙ back_there r
