-- Each message marked E makes an attempt to edit a read-only document in which it has something to edit: computed for all kinds at once.
use Rattle.run_laws.proofs.Names.{◌≡◌, ℕ, Bool, true, cond, List, [], ◌∷◌, refl, subst, ◌==◌, list_all, and_parts, Kind, number_of, marks_of, every_kind, Session, table, something_to_edit, with_ones, tells_attempt, MarkedMessagesTellAttempts, AllByRecursion, found_all}
use Rattle.ed_types.specs.MessagesLaws.{EachKindIsFound}

-- What a test finds for all kinds holds for each kind.

all_pass : (test : Kind → Bool) (ks : List Kind) → list_all test ks ≡ true → AllByRecursion (λ (k : Kind). test k ≡ true) ks
all_pass test [] all = tt
all_pass test (k ∷ ks) all = let parts = and_parts (test k) (list_all test ks) all in (parts.0, all_pass test ks parts.1)

-- whether the message, if it is marked E, makes an attempt in this session
abbrev tells_if_marked : Session → Kind → Bool
tells_if_marked s kind = cond (marks_of kind).e (tells_attempt (table s 1 (with_ones kind))) true

all_tell : list_all (tells_if_marked something_to_edit) every_kind ≡ true
all_tell = refl

pub marked_messages_tell_attempts : EachKindIsFound → MarkedMessagesTellAttempts
marked_messages_tell_attempts found kind marked =
    let test : cond (marks_of kind).e (tells_attempt (table something_to_edit 1 (with_ones kind))) true ≡ true =
    found_all (λ (k : Kind). tells_if_marked something_to_edit k ≡ true) (λ (k : Kind). number_of k == number_of kind) every_kind kind (all_pass (tells_if_marked something_to_edit) every_kind all_tell) (found kind) in
    subst (λ (b : Bool). cond b (tells_attempt (table something_to_edit 1 (with_ones kind))) true ≡ true) marked test
