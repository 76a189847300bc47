use Rattle.std.proofs.Common.{drop}
use Rattle.scene.proofs.Followed.{IsFollowedSoFar}
use Rattle.scene.proofs.moving.follow.Given as goal

abbrev pub invariant-loop-id : goal.invariant-loop-id
invariant-loop-id l = IsFollowedSoFar l.fn.movement l.fn.edits l.fn.ids (drop l.id-index l.fn.ids) l.fn.views l.views
