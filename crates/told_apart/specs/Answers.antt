-- Rule 10.4: what it is for a contract to fix its answer. It asks nothing, and any two answers that it allows to the
-- same arguments are equal. An answer is what comes back and what every lent buffer holds afterwards.
use Rattle.std.specs.Prelude.{ℕ, ◌≡◌, List, ℤ}
use base.Logic.{SProp, ent, sep, emp}
use prog.Memory.{Memory}
use prog.Routine.{Routine}
use types.Logic.{Logic}
use contract.Lifetimes.{Lfts}
use contract.Monad.{Fun, fact}
use Rattle.std.specs.Borrow.{Bor}
use denote.Triple.Entry.{Args, Res}
use denote.Triple.Clauses.{Ended, ClausesAt, Clauses, Lasts, at_exit}
use borrow.Fn.World.{World}
use Rattle.reader.specs.declared.Reader.{Reader}

-- a function's contract as the toolchain reads it off the code: clauses that are assertions of its logic, in a model w
abbrev pub Contract : World → Ended → Type 2
Contract w ended =
    Logic w.𝓤 → (Memory → SProp w.𝓤) → (Routine → Fun w.𝓤) → Clauses w.𝓤 ended

-- what it is for two values that a function gives back to be alike
abbrev pub Likeness : Ended → Type 1
Likeness ended =
    (lifetimes : Lfts ended.signature.lifetimes) →
    Res ended.signature lifetimes → Res ended.signature lifetimes → Type 0

-- and what it is for what two calls leave in the lent buffers
abbrev pub BufferLikeness : Ended → Type 1
BufferLikeness ended =
    (lifetimes : Lfts ended.signature.lifetimes) (arguments : Args ended.signature lifetimes) →
    Lasts ended lifetimes arguments → Lasts ended lifetimes arguments → Type 0

module _ (w : World) (ended : Ended) (lifetimes : Lfts ended.signature.lifetimes) where
  -- nothing is asked: the `requires` is the empty assertion, at some ghost value where a contract binds one
  abbrev pub AsksNothing : ClausesAt w.𝓤 ended lifetimes → Type 2
  AsksNothing clauses = (ghost : clauses.ghost) × (clauses.requires ghost ≡ emp w.𝓤)

  -- of any two answers that the `ensures` allows, what comes back is alike, and so is what the lent buffers hold
  abbrev pub AnswersAlike :
      Likeness ended → BufferLikeness ended → Args ended.signature lifetimes → ClausesAt w.𝓤 ended lifetimes →
      Type 1
  AnswersAlike Alike Left arguments clauses =
      (ghost : clauses.ghost) (answer other : Res ended.signature lifetimes) →
      (buffers others : Lasts ended lifetimes arguments) →
      let allowed = clauses.ensures ghost answer (at_exit ended lifetimes arguments buffers) in
      let allowed-too = clauses.ensures ghost other (at_exit ended lifetimes arguments others) in
      ent w.𝓤 (sep w.𝓤 allowed allowed-too)
      (fact w.𝓤 (Alike lifetimes answer other × Left lifetimes arguments buffers others))

-- a contract fixes its answer, where values, and buffers, that are alike are taken for the same
abbrev pub FixesBut : (w : World) (ended : Ended) → Likeness ended → BufferLikeness ended → Contract w ended → Type 2
FixesBut w ended Alike Left contract =
    (lifetimes : Lfts ended.signature.lifetimes) (arguments : Args ended.signature lifetimes) →
    let clauses = contract w.𝓛 w.𝓜.mem w.𝓡.returns lifetimes arguments in
    AsksNothing w ended lifetimes clauses × AnswersAlike w ended lifetimes Alike Left arguments clauses

-- the same, where every lent buffer holds the same
abbrev pub Fixes : (w : World) (ended : Ended) → Likeness ended → Contract w ended → Type 2
Fixes w ended Alike contract = FixesBut w ended Alike (λ lifetimes arguments buffers others. buffers ≡ others) contract

-- a contract fixes its answer: any two that are allowed are equal
abbrev pub TellsApart : (w : World) (ended : Ended) → Contract w ended → Type 2
TellsApart w ended contract = Fixes w ended (λ lifetimes answer other. answer ≡ other) contract

-- rule 16.5: a contract fixes its answer and, of what lent buffers hold afterwards, all that makes them alike
abbrev pub TellsApartBut : (w : World) (ended : Ended) → BufferLikeness ended → Contract w ended → Type 2
TellsApartBut w ended Left contract = FixesBut w ended (λ lifetimes answer other. answer ≡ other) Left contract

-- a buffer of which two calls leave the same where a check refuses
abbrev pub KeptBy : ℕ → List ℤ → List ℤ → Type 0
KeptBy refusal buffer other = (refusal ≡ 0 → ⊥) → buffer ≡ other

-- slices are alike that hold the same and point at the same place, which is all that a caller can see of them. The
-- third part of a reference is the name under which the logic keeps track of its contents: no code knows it, a slice
-- that is cut gets a new one, and no contract can say which
abbrev pub SameSlice : Bor (List ℕ) → Bor (List ℕ) → Type 0
SameSlice slice other = (slice.now ≡ other.now) × (slice.ref_ptr ≡ other.ref_ptr)

-- and readers that hold alike slices and stand at the same place in them
abbrev pub SameReader : Reader → Reader → Type 0
SameReader reader other = SameSlice reader.expression other.expression × (reader.place ≡ other.place)
