-- `settle` keeps what the places still to come come to, from what was found on.
use Rattle.std.proofs.Common.{◌≡◌, Some, drop}
use Rattle.bintree.specs.declared.Colour.TheVariants.{White}
use Rattle.bintree.specs.Shape.{symbol_of}
use Rattle.sweep.specs.Places.{settled}
use Rattle.sweep.proofs.places.settle.Given as goal

abbrev pub invariant-loop-place : goal.invariant-loop-place
invariant-loop-place l =
    settled l.expression l.found (drop l.place-index l.places) ≡ settled l.expression (Some (symbol_of White)) l.places
