-- Of each function of the face for C and Rust: its contract asks nothing, and two answers that it allows are equal, and so is what every lent buffer holds.
use mathlib.Core.Path.{◌≡◌, refl}
use borrow.Fn.World.{World}
use Rattle.csg.specs.Surfaces.{surfaces_of}
use Rattle.pruned.specs.Answers.{work_of_one, work_of_two}
use Rattle.export.specs.Arrays.{universe_of}
use Rattle.export.specs.contracts as export
use Rattle.told_apart.specs.Answers.{TellsApart, TellsApartBut, KeptBy}
use Rattle.told_apart.proofs.Alike.{same, one, two, three, four, six, behind}

pub durbizhan_room : (w : World) → TellsApart w export.conversions.durbizhan_room.ended export.conversions.durbizhan_room.clauses
durbizhan_room w _ _ = ((tt, refl), λ _ _ _ _ _. two w (λ p q. (same p.0 q.0, λ i. behind 5 (same p.1 q.1 i, tt))))

pub durbizhan_leaves : (w : World) → TellsApart w export.conversions.durbizhan_leaves.ended export.conversions.durbizhan_leaves.clauses
durbizhan_leaves w _ _ = ((tt, refl), λ _ _ _ _ _. one w (λ p q. (same p q, refl)))

pub durbizhan_balls : (w : World) → TellsApart w export.conversions.durbizhan_balls.ended export.conversions.durbizhan_balls.clauses
durbizhan_balls w _ _ = ((tt, refl), λ _ _ _ _ _. one w (λ p q. (same p q, refl)))

pub durbizhan_raw_one : (w : World) → TellsApart w export.conversions.durbizhan_raw_one.ended export.conversions.durbizhan_raw_one.clauses
durbizhan_raw_one w _ _ = ((tt, refl), λ _ _ _ _ _. three w (λ p q. (same p.0 q.0, λ i. behind 6 (same p.2 q.2 i, (same p.1 q.1 i, tt)))))

pub durbizhan_raw_two : (w : World) → TellsApart w export.conversions.durbizhan_raw_two.ended export.conversions.durbizhan_raw_two.clauses
durbizhan_raw_two w _ _ = ((tt, refl), λ _ _ _ _ _. three w (λ p q. (same p.0 q.0, λ i. behind 7 (same p.2 q.2 i, (same p.1 q.1 i, tt)))))

pub durbizhan_merged_one : (w : World) → TellsApart w export.conversions.durbizhan_merged_one.ended export.conversions.durbizhan_merged_one.clauses
durbizhan_merged_one w _ _ = ((tt, refl), λ _ _ _ _ _. three w (λ p q. (same p.0 q.0, λ i. behind 6 (same p.2 q.2 i, (same p.1 q.1 i, tt)))))

pub durbizhan_merged_two : (w : World) → TellsApart w export.conversions.durbizhan_merged_two.ended export.conversions.durbizhan_merged_two.clauses
durbizhan_merged_two w _ _ = ((tt, refl), λ _ _ _ _ _. three w (λ p q. (same p.0 q.0, λ i. behind 7 (same p.2 q.2 i, (same p.1 q.1 i, tt)))))

pub durbizhan_verdict : (w : World) → TellsApart w export.verdicts.durbizhan_verdict.ended export.verdicts.durbizhan_verdict.clauses
durbizhan_verdict w _ _ = ((tt, refl), λ _ _ _ _ _. three w (λ p q. (same p.0 q.0, λ i. behind 9 (same p.2 q.2 i, (same p.1 q.1 i, tt)))))

pub durbizhan_contacts : (w : World) → TellsApart w export.verdicts.durbizhan_contacts.ended export.verdicts.durbizhan_contacts.clauses
durbizhan_contacts w _ _ = ((tt, refl), λ _ _ _ _ _. two w (λ p q. (same p.0 q.0, λ i. behind 9 (same p.1 q.1 i, tt))))

pub durbizhan_verdict_at_once : (w : World) → TellsApart w export.answers.durbizhan_verdict_at_once.ended export.answers.durbizhan_verdict_at_once.clauses
durbizhan_verdict_at_once w _ _ = ((tt, refl), λ _ _ _ _ _. two w (λ p q. (same p.0 q.0, λ i. behind 9 (same p.1 q.1 i, tt))))

pub durbizhan_ends_at_once : (w : World) → TellsApart w export.answers.durbizhan_ends_at_once.ended export.answers.durbizhan_ends_at_once.clauses
durbizhan_ends_at_once w _ _ = ((tt, refl), λ _ _ _ _ _. two w (λ p q. (same p.0 q.0, λ i. behind 9 (same p.1 q.1 i, tt))))

pub durbizhan_mover : (w : World) → TellsApart w export.movers.durbizhan_mover.ended export.movers.durbizhan_mover.clauses
durbizhan_mover w _ _ = ((tt, refl), λ _ _ _ _ _. three w (λ p q. (same p.0 q.0, λ i. behind 17 (same p.2 q.2 i, (same p.1 q.1 i, tt)))))

pub durbizhan_numbers : (w : World) → TellsApart w export.verdicts.durbizhan_numbers.ended export.verdicts.durbizhan_numbers.clauses
durbizhan_numbers w _ _ = ((tt, refl), λ _ _ _ _ _. two w (λ p q. (same p.0 q.0, λ i. behind 6 (same p.1 q.1 i, tt))))

pub durbizhan_report : (w : World) → TellsApart w export.reports.durbizhan_report.ended export.reports.durbizhan_report.clauses
durbizhan_report w _ _ = ((tt, refl), λ _ _ _ _ _. three w (λ p q. (same p.0 q.0, λ i. behind 6 (same p.2 q.2 i, (same p.1 q.1 i, tt)))))

pub durbizhan_scene : (w : World) → TellsApart w export.documents.durbizhan_scene.ended export.documents.durbizhan_scene.clauses
durbizhan_scene w _ _ = (
  (tt, refl),
  λ _ _ _ _ _. six w (λ p q.
      let answer = same p.1 q.1 in
      let rows = same p.2 q.2 in
      let balls = same p.3 q.3 in
      let first = same p.4 q.4 in
      let second = same p.5 q.5 in
      (same p.0 q.0, λ i. (tt, (rows i, (balls i, (first i, (second i, (answer i, tt)))))))),
)

pub durbizhan_lines : (w : World) → TellsApart w export.documents.durbizhan_lines.ended export.documents.durbizhan_lines.clauses
durbizhan_lines w _ _ = ((tt, refl), λ _ _ _ _ _. two w (λ p q. (same p.0 q.0, λ i. behind 1 (same p.1 q.1 i, tt))))

pub durbizhan_shape_read : (w : World) → TellsApart w export.documents.durbizhan_shape_read.ended export.documents.durbizhan_shape_read.clauses
durbizhan_shape_read w _ _ = ((tt, refl), λ _ _ _ _ _. three w (λ p q. (same p.0 q.0, λ i. behind 1 (same p.2 q.2 i, (same p.1 q.1 i, tt)))))

pub durbizhan_shape_write : (w : World) → TellsApart w export.documents.durbizhan_shape_write.ended export.documents.durbizhan_shape_write.clauses
durbizhan_shape_write w _ _ = ((tt, refl), λ _ _ _ _ _. three w (λ p q. (same p.0 q.0, λ i. behind 4 (same p.2 q.2 i, (same p.1 q.1 i, tt)))))

pub durbizhan_well_formed : (w : World) → TellsApart w export.expressions.durbizhan_well_formed.ended export.expressions.durbizhan_well_formed.clauses
durbizhan_well_formed w _ _ = ((tt, refl), λ _ _ _ _ _. one w (λ p q. (same p q, refl)))

pub durbizhan_colour : (w : World) → TellsApart w export.expressions.durbizhan_colour.ended export.expressions.durbizhan_colour.clauses
durbizhan_colour w _ _ = ((tt, refl), λ _ _ _ _ _. two w (λ p q. (same p.0 q.0, λ i. behind 8 (same p.1 q.1 i, tt))))

pub durbizhan_part : (w : World) → TellsApart w export.expressions.durbizhan_part.ended export.expressions.durbizhan_part.clauses
durbizhan_part w _ _ = ((tt, refl), λ _ _ _ _ _. two w (λ p q. (same p.0 q.0, λ i. behind 5 (same p.1 q.1 i, tt))))

pub durbizhan_merge : (w : World) → TellsApart w export.expressions.durbizhan_merge.ended export.expressions.durbizhan_merge.clauses
durbizhan_merge w _ _ = ((tt, refl), λ _ _ _ _ _. three w (λ p q. (same p.0 q.0, λ i. behind 4 (same p.2 q.2 i, (same p.1 q.1 i, tt)))))

pub durbizhan_sweep : (w : World) → TellsApart w export.sweeps.durbizhan_sweep.ended export.sweeps.durbizhan_sweep.clauses
durbizhan_sweep w _ _ = ((tt, refl), λ _ _ _ _ _. three w (λ p q. (same p.0 q.0, λ i. behind 5 (same p.2 q.2 i, (same p.1 q.1 i, tt)))))

pub durbizhan_octree_export : (w : World) → TellsApart w export.octrees.durbizhan_octree_export.ended export.octrees.durbizhan_octree_export.clauses
durbizhan_octree_export w _ _ =
    ((tt, refl), λ _ _ _ _ _. three w (λ p q. (same p.0 q.0, λ i. behind 4 (same p.2 q.2 i, (same p.1 q.1 i, tt)))))

pub durbizhan_octree_import : (w : World) → TellsApart w export.octrees.durbizhan_octree_import.ended export.octrees.durbizhan_octree_import.clauses
durbizhan_octree_import w _ _ =
    ((tt, refl), λ _ _ _ _ _. three w (λ p q. (same p.0 q.0, λ i. behind 4 (same p.2 q.2 i, (same p.1 q.1 i, tt)))))

pub durbizhan_box : (w : World) → TellsApart w export.proxies.durbizhan_box.ended export.proxies.durbizhan_box.clauses
durbizhan_box w _ _ = ((tt, refl), λ _ _ _ _ _. two w (λ p q. (same p.0 q.0, λ i. behind 9 (same p.1 q.1 i, tt))))

pub durbizhan_cut : (w : World) → TellsApart w export.proxies.durbizhan_cut.ended export.proxies.durbizhan_cut.clauses
durbizhan_cut w _ _ = ((tt, refl), λ _ _ _ _ _. two w (λ p q. (same p.0 q.0, λ i. behind 7 (same p.1 q.1 i, tt))))

pub durbizhan_pruned_raw_one : (w : World) →
    TellsApartBut w export.prunings.durbizhan_pruned_raw_one.ended
    (λ lifetimes a x y. (x.1.1.1.1.1.1.1 ≡ y.1.1.1.1.1.1.1)
    × KeptBy (work_of_one (universe_of a.0 a.1.0 a.1.1.0) (surfaces_of a.1.1.1.0.now a.1.1.1.1.0.now)
    a.1.1.1.1.1.0.now a.1.1.1.1.1.1.0.now) x.1.1.1.1.1.1.0 y.1.1.1.1.1.1.0)
    export.prunings.durbizhan_pruned_raw_one.clauses
durbizhan_pruned_raw_one w _ _ = (
  (tt, refl),
  λ _ _ _ _ _. four w (λ p q. (same p.0 q.0, (λ i. (same p.2 q.2 i, (same p.1 q.1 i, tt)), λ n. same (p.3 n) (q.3 n)))),
)

pub durbizhan_pruned_raw_two : (w : World) →
    TellsApartBut w export.prunings.durbizhan_pruned_raw_two.ended
    (λ lifetimes a x y. (x.1.1.1.1.1.1.1.1 ≡ y.1.1.1.1.1.1.1.1)
    × KeptBy (work_of_two (universe_of a.0 a.1.0 a.1.1.0) (surfaces_of a.1.1.1.0.now a.1.1.1.1.0.now)
    a.1.1.1.1.1.0.now a.1.1.1.1.1.1.0.now a.1.1.1.1.1.1.1.0.now) x.1.1.1.1.1.1.1.0 y.1.1.1.1.1.1.1.0)
    export.prunings.durbizhan_pruned_raw_two.clauses
durbizhan_pruned_raw_two w _ _ = (
  (tt, refl),
  λ _ _ _ _ _. four w (λ p q. (same p.0 q.0, (λ i. (same p.2 q.2 i, (same p.1 q.1 i, tt)), λ n. same (p.3 n) (q.3 n)))),
)

pub durbizhan_pruned_merged_one : (w : World) →
    TellsApartBut w export.prunings.durbizhan_pruned_merged_one.ended
    (λ lifetimes a x y. (x.1.1.1.1.1.1.1 ≡ y.1.1.1.1.1.1.1)
    × KeptBy (work_of_one (universe_of a.0 a.1.0 a.1.1.0) (surfaces_of a.1.1.1.0.now a.1.1.1.1.0.now)
    a.1.1.1.1.1.0.now a.1.1.1.1.1.1.0.now) x.1.1.1.1.1.1.0 y.1.1.1.1.1.1.0)
    export.prunings.durbizhan_pruned_merged_one.clauses
durbizhan_pruned_merged_one w _ _ = (
  (tt, refl),
  λ _ _ _ _ _. four w (λ p q. (same p.0 q.0, (λ i. (same p.2 q.2 i, (same p.1 q.1 i, tt)), λ n. same (p.3 n) (q.3 n)))),
)

pub durbizhan_pruned_merged_two : (w : World) →
    TellsApartBut w export.prunings.durbizhan_pruned_merged_two.ended
    (λ lifetimes a x y. (x.1.1.1.1.1.1.1.1 ≡ y.1.1.1.1.1.1.1.1)
    × KeptBy (work_of_two (universe_of a.0 a.1.0 a.1.1.0) (surfaces_of a.1.1.1.0.now a.1.1.1.1.0.now)
    a.1.1.1.1.1.0.now a.1.1.1.1.1.1.0.now a.1.1.1.1.1.1.1.0.now) x.1.1.1.1.1.1.1.0 y.1.1.1.1.1.1.1.0)
    export.prunings.durbizhan_pruned_merged_two.clauses
durbizhan_pruned_merged_two w _ _ = (
  (tt, refl),
  λ _ _ _ _ _. four w (λ p q. (same p.0 q.0, (λ i. (same p.2 q.2 i, (same p.1 q.1 i, tt)), λ n. same (p.3 n) (q.3 n)))),
)
