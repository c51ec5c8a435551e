-- The whole universe written: the full trees are pruned over it in place, and what that leaves is one symbol, or both halves, which are written once or, where
-- the room lent may not suffice, into scratch room that is as long, or measured first: the nodes of what is left stand while the halves are measured.
use Prim.Native.Nat.{ℕ, suc, ◌+◌, ◌*◌, ◌/◌, ◌%◌, ◌^◌, ◌≤◌, ◌<◌}
use native.Mathlib.Omega.{arith}
use native.Mathlib.Nat.{le_trans, mul-le-mul}
use mathlib.Core.Path.{◌≡◌, refl, sym, ap, subst, ◌∙◌}
use mathlib.Core.Bool.{Bool, true, false}
use mathlib.Core.Logic.{inl}
use mathlib.Core.List.{List, [], ◌∷◌}
use borrow.Author.Tests.{eqb-true}
use lib.Dec.{eqb}
use lib.IntN.{ℤ}
use lib.ListN.{length, get_or, set, replicate, take}
use lib.Seq.{sets}
use lib.Pow.{pow_mono}
use Rattle.lemmas.proofs.Stores.{sets_first, sets_front}
use Rattle.universe.specs.declared.Universe.{Universe}
use Rattle.universe.specs.declared.Block.{Block}
use Rattle.universe.specs.Universe.{most_axes, most_levels, levels}
use Rattle.universe.specs.Questions.{levels_answer, axes_left}
use Rattle.universe.specs.Block.{whole_block}
use Rattle.universe.proofs.Universes.{accepted, levels_few}
use Rattle.universe.proofs.Questions.{levels_told}
use Rattle.universe.proofs.Lent.{untouched, written, room_enough, room_short}
use Rattle.bintree.specs.Shape.{Shape, size, symbols}
use Rattle.bintree.specs.Walks.{noted}
use Rattle.bintree.proofs.Shape.{length_symbols}
use Rattle.bintree.proofs.Lays.{laid_noted}
use Rattle.csg.specs.Surfaces.{Surfaces}
use Rattle.csg.specs.Tree.{Plain}
use Rattle.convert.specs.Blocks.{Standing, block_left}
use Rattle.convert.specs.Shapes.{shaped, symbol_of_bits}
use Rattle.convert.proofs.Blocks.{whole_is}
use Rattle.convert.proofs.Shapes.{shaped_leaf, shaped_size}
use Rattle.pruned.specs.Told.{ConversionAnswer}
use Rattle.pruned.specs.Left.{all_nodes}
use Rattle.pruned.specs.Looked.{examine_all, looked_at, nodes_looked, looked_from}
use Rattle.pruned.specs.Nodes.{all_postfix, Holds, Pruned}
use Rattle.pruned.specs.Laying.{BlockJob, HalvesJob, HalvesLaid}
use Rattle.pruned.specs.Loading.{whole_of}
use Rattle.pruned.specs.Answers.{short_of_symbols, done_conversion, written_conversion, written_room}
use Rattle.pruned.specs.Whole.{halves_of, looked_in, HalvesWritten, OpenJob, Ended, WholeJob, symbols_of}
use Rattle.pruned.proofs.Looked.{looked_is, looked_few, size_few}
use Rattle.pruned.proofs.Memory.{holds_same}
use Rattle.pruned.proofs.Reading.{length_all}
use Rattle.pruned.proofs.Steps.{stepping, step_same}
use Rattle.pruned.proofs.Laying.{unpacked, Judgement, one_leaf, unsettled, block_pruning, how, block_halves, halves_are}

-- ---- how a conversion ends that lacks no work room
module _ {out symbols : List ℕ} {looked k : ℕ} (e : k ≡ length symbols) where
  pub ended_short : length out < k → Ended out symbols looked (short_of_symbols k) out
  unfolding written_conversion written_room
  ended_short h =
      record {
        answer = rw (room_short (length out) (length symbols) (omega arith), e);
        room = untouched symbols out (λ z. omega (arith, room_short (length out) (length symbols) (omega arith)));
      }

  pub ended_done : k ≤ length out → {out' : List ℕ} → out' ≡ sets out 0 symbols → {l : ℕ} → l ≡ looked →
      Ended out symbols looked (done_conversion k l) out'
  unfolding written_conversion written_room
  ended_done h f m =
      let z = room_enough (length out) (length symbols) (omega arith) in
      record {
        answer = rw (z, e, m);
        room = f ∙ sets_first symbols out (omega arith) ∙ written symbols out z refl;
      }

-- the one symbol of a leaf
module _ {out : List ℕ} {symbol looked : ℕ} where
  pub symbol_short : length out < 1 → Ended out (symbol ∷ []) looked (short_of_symbols 1) out
  symbol_short h = ended_short refl h

  pub symbol_done : 1 ≤ length out → Ended out (symbol ∷ []) looked (done_conversion 1 looked) (set out 0 symbol)
  symbol_done h = ended_done refl h refl refl

-- ---- both halves, from the room's front on
module _ {surfaces : Surfaces} {axes : ℕ} {table low side : List ℕ} {left : ℕ} {work : List ℤ} {from count : ℕ} {looked : List ℕ}
    (job : HalvesJob surfaces axes table low side left work from count looked 0) where
  pub halves_written : (m : Bool) (out : List ℕ) {packed : ℕ} {out₁ looked₁ low₁ side₁ : List ℕ} {work₁ : List ℤ} →
      HalvesLaid job m out packed out₁ looked₁ low₁ side₁ work₁ → {out₂ : List ℕ} → out₂ ≡ noted out₁ 0 (packed % 256) →
      HalvesWritten job m out (packed / 256) out₂ looked₁ low₁ side₁ work₁
  halves_written m out l e =
      let s = halves_of m job in
      let p = unpacked 0 s l.piece in
      record {
        long_is = omega (arith, p.0, length_symbols s);
        room = e ∙ rw (l.room, p.1) (laid_noted out 0 s);
        counted = l.counted;
        lows = l.lows;
        sides = l.sides;
        below = l.below;
      }

module _ {surfaces : Surfaces} {axes : ℕ} {table low side : List ℕ} {left : ℕ} {work : List ℤ} {count before room : ℕ}
    (job : OpenJob surfaces axes table low side left work count before room) (m : Bool) (out : List ℕ) where
  abbrev written' : List ℕ
  written' = symbols (halves_of m job.halves)

  abbrev total : ℕ
  total = before + looked_in job.halves

  -- written at once
  pub open_once : room ≤ length out → {k : ℕ} {out' looked' low' side' : List ℕ} {work' : List ℤ} →
      HalvesWritten job.halves m out k out' looked' low' side' work' → Ended out written' total (done_conversion k (get_or looked' 0 0)) out'
  open_once h w =
      ended_done w.long_is (omega (arith, job.suffices m, w.long_is)) w.room (ap (λ (l : List ℕ). get_or l 0 0) w.counted)

-- written into scratch room first, or measured with none
module _ {surfaces : Surfaces} {axes : ℕ} {table low side : List ℕ} {left : ℕ} {work : List ℤ} {count before : ℕ}
    (job : HalvesJob surfaces axes table low side left work 0 count (before ∷ []) 0) (m : Bool) (out : List ℕ) where
  abbrev laid_out : List ℕ
  laid_out = symbols (halves_of m job)

  abbrev in_all : ℕ
  in_all = before + looked_in job

  module _ {scratch scratch' looked' low' side' : List ℕ} {k : ℕ} {work' : List ℤ} (w : HalvesWritten job m scratch k scratch' looked' low' side' work') where
    pub through_short : length out < k → Ended out laid_out in_all (short_of_symbols k) out
    through_short h = ended_short w.long_is h

    abbrev Again : List ℕ → List ℕ → Type 0
    Again lows sides = HalvesJob surfaces axes table lows sides left work' 0 count (before ∷ []) 0

    again_exact : Again low side
    again_exact =
        let h = job in
        record {
          universe = h.universe;
          scene = h.scene;
          axes_are = h.axes_are;
          standing = h.standing;
          some = h.some;
          table_is = h.table_is;
          trees = h.trees;
          few = h.few;
          counted = h.counted;
          holds = holds_same (λ k p q. w.below.same k (omega (arith, h.counted))) h.holds;
          room = rw w.below.long h.room;
          bounded = rw w.below.long h.bounded;
          fits = h.fits;
          tallied = refl;
          counts = h.counts;
        }

    pub through_again : Again low' side'
    through_again = rw (w.lows, w.sides) again_exact

    pub through_twice : k ≤ length out → {k₂ : ℕ} {out' looked₂ low₂ side₂ : List ℕ} {work₂ : List ℤ} →
        ((j : Again low' side') → HalvesWritten j m out k₂ out' looked₂ low₂ side₂ work₂) →
        Ended out laid_out in_all (done_conversion k (get_or looked' 0 0)) out'
    unfolding again_exact
    through_twice h {k₂} {out'} {looked₂} {low₂} {side₂} {work₂} f =
        let g : (j : Again low side) → HalvesWritten j m out k₂ out' looked₂ low₂ side₂ work₂ = rw (w.lows, w.sides) at f in
        ended_done w.long_is h (g again_exact).room (ap (λ (l : List ℕ). get_or l 0 0) w.counted)

    -- the scratch room is no shorter than the room lent, so it holds whatever fits there
    pub through_copied : k ≤ length out → length out ≤ length scratch → {out' : List ℕ} → out' ≡ sets out 0 (take k scratch') →
        Ended out laid_out in_all (done_conversion k (get_or looked' 0 0)) out'
    through_copied f g p =
        let same : take k scratch' ≡ laid_out =
        ap (λ (j : ℕ). take j scratch') w.long_is ∙ ap (take (length laid_out)) w.room
        ∙ sets_front laid_out scratch (omega (arith, f, g, w.long_is)) in
        ended_done w.long_is f (p ∙ ap (sets out 0) same) (ap (λ (l : List ℕ). get_or l 0 0) w.counted)

-- ---- the whole universe
module _ {u : Universe} {surfaces : Surfaces} {side : List ℕ} {work : List ℤ} {count : ℕ} {starts : List ℕ} {room : ℕ}
    (job : WholeJob u surfaces side work count starts room) where
  abbrev ps : List Plain
  ps = job.trees

  abbrev lows : List ℕ
  lows = replicate most_axes 0

  abbrev raw : Shape
  raw = examine_all surfaces ps (levels u) (whole_of u)

  same_raw : raw ≡ examine_all surfaces ps (levels u) (whole_block u)
  same_raw = ap (examine_all surfaces ps (levels u)) (whole_is u)

  raw_small : size raw < 2 ^ suc most_levels
  raw_small =
      le_trans (size_few surfaces ps (levels u) (whole_of u)) (pow_mono {i = suc (levels u)} {j = suc most_levels} (omega (
        arith,
        levels_few u (accepted u
            job.scene.accepted_universe),
      )))

  nodes_counted : all_nodes ps ≡ count
  nodes_counted = sym (length_all ps) ∙ sym job.counted

  looked_same : looked_from surfaces ps (levels u) (whole_of u) ≡ nodes_looked u surfaces ps
  looked_same =
      looked_is surfaces ps (levels u) (whole_of u) (omega arith)
      ∙ ap (λ (b : Block). looked_at surfaces ps (levels u) b (all_nodes ps)) (whole_is u)

  looked_small : looked_from surfaces ps (levels u) (whole_of u) < 2 ^ 64
  looked_small =
      let few = looked_few surfaces ps (levels u) (whole_of u) (all_nodes ps) (omega arith) in
      let a : size raw ≤ 2 ^ suc most_levels = omega (arith, raw_small) in
      let b : all_nodes ps ≤ 510 = omega (arith, nodes_counted, job.short) in
      let small : size raw * all_nodes ps ≤ 2 ^ suc most_levels * 510 = mul-le-mul a b in
      omega (arith, looked_is surfaces ps (levels u) (whole_of u) (omega arith), few, small)

  module _ {axes left : ℕ} {table : List ℕ} (axes_are : axes ≡ u.axes) (told : left ≡ levels_answer u) (table_is : table ≡ axes_left u) where
    left_is : left ≡ levels u
    left_is = levels_told u refl job.scene.accepted_universe told

    last : eqb left 0 ≡ true → left ≡ 0
    last e = eqb-true left 0 e

    stands : Standing u left lows side
    stands = subst (λ (n : ℕ). Standing u n lows side) (sym left_is) job.standing

    pub root : BlockJob surfaces axes table lows side 0 0 false left work 0 count 0 (0 ∷ []) 0
    unfolding step_same stepping
    root =
        record {
          step = step_same job.scene axes_are stands last;
          scene = job.scene;
          left_is = refl;
          table_is = table_is;
          trees = ps;
          few = job.few;
          counted = job.counted;
          holds = subst (λ (n : ℕ). Holds surfaces (block_left u n lows) work 0 (all_postfix ps)) (sym left_is) job.holds;
          apart = inl (omega arith);
          inside = omega (arith, job.enough);
          room = rw left_is (omega (arith, job.enough));
          bounded = job.bounded;
          fits = rw left_is (omega (arith, raw_small));
          tallied = refl;
          counts = rw left_is (omega (arith, looked_small));
          rests = λ e. refl;
        }

    -- the block that is judged
    abbrev here : Block
    here = block_left u left lows

    here_shape : examine_all surfaces ps left here ≡ examine_all surfaces ps (levels u) (whole_block u)
    here_shape = subst (λ (n : ℕ). examine_all surfaces ps n (block_left u n lows) ≡ examine_all surfaces ps (levels u) (whole_block u)) (sym left_is) same_raw

    here_looked : looked_from surfaces ps left here ≡ nodes_looked u surfaces ps
    here_looked = subst (λ (n : ℕ). looked_from surfaces ps n (block_left u n lows) ≡ nodes_looked u surfaces ps) (sym left_is) looked_same

    module _ {work₁ : List ℤ} {mark nodes : ℕ} (pruned : Pruned (block_pruning root) work₁ mark nodes) where
      judgement : Judgement surfaces ps here left mark
      unfolding root step_same stepping
      judgement = how root pruned

      -- decided over the universe, it is one symbol
      pub whole_closed : (m : Bool) (out : List ℕ) {symbol : ℕ} → (mark ≡ 0 → ⊥) → symbol ≡ symbol_of_bits mark → {r : ConversionAnswer} {out' : List ℕ} →
          Ended out (symbol ∷ []) count r out' → Ended out (symbols_of m u surfaces ps) (nodes_looked u surfaces ps) r out'
      unfolding symbols
      whole_closed m out {symbol} z e {r} {out'} ended = by judgement
        where
          by : Judgement surfaces ps here left mark → Ended out (symbols_of m u surfaces ps) (nodes_looked u surfaces ps) r out'
          by (unsettled n y s v w) = absurd (z y)
          by (one_leaf c k s f g) =
              let shape : symbols_of m u surfaces ps ≡ symbol ∷ [] =
              ap (λ (x : Shape). symbols (shaped m x)) (sym here_shape ∙ f) ∙ ap symbols (shaped_leaf m c) ∙ ap (λ (x : ℕ). x ∷ []) (sym (e ∙ s)) in
              let total : nodes_looked u surfaces ps ≡ count = sym here_looked ∙ g ∙ nodes_counted in
              rw (shape, total) ended

      -- undecided, its halves are written
      module _ (z : mark ≡ 0) where
        halves : HalvesJob surfaces axes table lows side left work₁ 0 nodes (count ∷ []) 0
        unfolding root step_same stepping
        halves =
            let h = block_halves root pruned z in
            record {
              universe = h.universe;
              scene = h.scene;
              axes_are = h.axes_are;
              standing = h.standing;
              some = h.some;
              table_is = h.table_is;
              trees = h.trees;
              few = h.few;
              counted = h.counted;
              holds = h.holds;
              room = h.room;
              bounded = h.bounded;
              fits = h.fits;
              tallied = refl;
              counts = omega (arith, h.counts);
            }

        halves_shape_lem : (m : Bool) → halves_of m halves ≡ shaped m (examine_all surfaces ps (levels u) (whole_block u))
        unfolding halves root step_same stepping
        halves_shape_lem m = ap (shaped m) (sym (halves_are root pruned z).0 ∙ here_shape)

        halves_looked : count + looked_in halves ≡ nodes_looked u surfaces ps
        unfolding halves root step_same stepping
        halves_looked = sym (halves_are root pruned z).1 ∙ here_looked

        pub open_job : OpenJob surfaces axes table lows side left work₁ nodes count room
        open_job =
            record {
              halves = halves;
              suffices = λ m. omega (
                arith,
                length_symbols (halves_of m halves),
                ap size (halves_shape_lem m),
                shaped_size m (examine_all surfaces ps (levels u) (whole_block u)),
                job.suffices,
              );
            }

        pub whole_open : (m : Bool) (out : List ℕ) {r : ConversionAnswer} {out' : List ℕ} →
            Ended out (symbols (halves_of m open_job.halves)) (count + looked_in open_job.halves) r out' →
            Ended out (symbols_of m u surfaces ps) (nodes_looked u surfaces ps) r out'
        unfolding open_job
        whole_open m out e = rw (ap symbols (halves_shape_lem m), halves_looked) at e
