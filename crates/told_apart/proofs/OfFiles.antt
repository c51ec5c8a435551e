-- Of each public function of `files`: its contract asks nothing, and two answers that it allows are equal, and so is what every lent buffer holds.
use mathlib.Core.Path.{refl}
use borrow.Fn.World.{World}
use Rattle.files.specs.contracts as files
use Rattle.told_apart.specs.Answers.{TellsApart}
use Rattle.told_apart.proofs.Alike.{same, two, five, behind}
use Rattle.told_apart.proofs.Told.{scene-read, shape-read, writing-read}

pub files_read_scene : (w : World) → TellsApart w files.read_scene.ended files.read_scene.clauses
files_read_scene w _ _ = (
  (tt, refl),
  λ _ _ _ _ _. five w (λ p q.
      let rows = same p.1 q.1 in
      let balls = same p.2 q.2 in
      let first = same p.3 q.3 in
      let second = same p.4 q.4 in
      (scene-read _ _ (same p.0 q.0), λ i. (tt, (rows i, (balls i, (first i, (second i, tt))))))),
)

pub files_read_shape : (w : World) → TellsApart w files.read_shape.ended files.read_shape.clauses
files_read_shape w _ _ = ((tt, refl), λ _ _ _ _ _. two w (λ p q. (shape-read _ _ (same p.0 q.0), λ i. behind 1 (same p.1 q.1 i, tt))))

pub files_write_shape : (w : World) → TellsApart w files.write_shape.ended files.write_shape.clauses
files_write_shape w _ _ = ((tt, refl), λ _ _ _ _ _. two w (λ p q. (writing-read _ _ (same p.0 q.0), λ i. behind 2 (same p.1 q.1 i, tt))))
