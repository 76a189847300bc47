-- The undo history. First facts on lists of transactions and on save points, then facts on histories by cases of their tests.
use Rattle.ed_model.proofs.Names.{◌||◌, ◌≡◌, ℕ, suc, ◌+◌, ◌-◌, ◌<◌, ◌==◌, not, ◌&&◌, cond, if◌then◌else◌, Bool, true, false, ℤ, List, [], ◌∷◌, length, map, refl, ap, ◌∙◌, sym, subst, arith, eqb-true, eq-eqb, cond-true, cond-false, cond_both, is_number, History, Transaction, Change, at_save_point, joins, joins_last, appended, reachable, with_change, first_changes, seal_first, sealed_outside_groups, with_last_sealed, group_ended, with_container_step, ContainerStep, undone_to, redone, redone_from, NotCollectingAppendsNothing, KeepsAllButThePast, AppendKeepsAllButThePast, AppendJoins, NothingJoinsNone, AppendBegins, AppendCounts, AppendLeavesTheSavePoint, SealsOnce, NothingJoinsASealedOne, SameButForSeals, SealsChangeNoChange, GroupBegunChangesNoChange, GroupEndedChangesNoChange, GroupBegunIsDeeper, GroupEndedIsLessDeep, OthersKeepTheDepth, MovesToTheFuture, UndoMovesToTheFuture, MovesToThePast, RedoMovesToThePast, UndoThenRedoGivesBackTheHistory, sealed_length, lower_save_point, other_save_point}

-- Tests.

pub itself : (n : ℕ) → (n == n) ≡ true
itself n = eq-eqb n n refl

-- Seals.

pub sealed_changes : (ts : List Transaction) → map (λ (t : Transaction). t.changes) (seal_first ts) ≡ map (λ (t : Transaction). t.changes) ts
sealed_changes [] = refl
sealed_changes (t ∷ ts) = refl

pub sealed_twice : (ts : List Transaction) → seal_first (seal_first ts) ≡ seal_first ts
sealed_twice [] = refl
sealed_twice (t ∷ ts) = refl

-- outside groups the last transaction is sealed, and in a group the history does not change
pub outside_groups : (P : History → Type 0) (h : History) → (h.depth ≡ 0 → P (with_last_sealed h)) → P h → P (sealed_outside_groups h)
outside_groups P h outside inside = cond_both (h.depth == 0) (with_last_sealed h) h P (λ e. outside (eqb-true h.depth 0 e)) (λ e. inside)

pub sealing_keeps_depth : (h : History) → (sealed_outside_groups h).depth ≡ h.depth
sealing_keeps_depth h = outside_groups (λ g. g.depth ≡ h.depth) h (λ e. refl) refl

pub same_as_itself : (h : History) → SameButForSeals h h
same_as_itself h = record { past = refl; future = refl; save_point = refl; collecting = refl }

sealed_changes_no_change : (h : History) → SameButForSeals h (with_last_sealed h)
sealed_changes_no_change h = record { past = sealed_changes h.past; future = refl; save_point = refl; collecting = refl }

pub seals_change_no_change : SealsChangeNoChange
seals_change_no_change h = outside_groups (SameButForSeals h) h (λ e. sealed_changes_no_change h) (same_as_itself h)

pub seals_once : SealsOnce
seals_once h =
    cond_both (h.depth == 0) (with_last_sealed h) h (λ g. sealed_outside_groups g ≡ g)
    (λ e. cond-true (h.depth == 0) _ _ e ∙ ap (λ ts. record h { past = ts }) (sealed_twice h.past))
    (λ e. cond-false (h.depth == 0) _ _ e)

nothing_joins_sealed : (later : Bool) (c : Change) (h : History) (ts : List Transaction) → joins_last later c h (seal_first ts) ≡ false
nothing_joins_sealed later c h [] = refl
nothing_joins_sealed later c h (t ∷ ts) = refl

pub nothing_joins_a_sealed_one : NothingJoinsASealedOne
nothing_joins_a_sealed_one later c h e =
    subst (λ g. joins later c g ≡ false) (sym (cond-true (h.depth == 0) (with_last_sealed h) h (eq-eqb h.depth 0 e)))
    (nothing_joins_sealed later c (with_last_sealed h) h.past)

-- Groups.

pub group_begun_changes_no_change : GroupBegunChangesNoChange
group_begun_changes_no_change h =
    let s = seals_change_no_change h in
    record { past = s.past; future = s.future; save_point = s.save_point; collecting = s.collecting }

pub group_begun_is_deeper : GroupBegunIsDeeper
group_begun_is_deeper h = refl

-- ending a group: nothing changes without a group; otherwise there is one group fewer, and the end of the outermost seals
pub group_end : (P : History → Type 0) (h : History) → P h → P (sealed_outside_groups (record h { depth = h.depth - 1 })) → P (group_ended h)
group_end P h none some = cond_both (h.depth == 0) h (sealed_outside_groups (record h { depth = h.depth - 1 })) P (λ e. none) (λ e. some)

pub group_ended_changes_no_change : GroupEndedChangesNoChange
group_ended_changes_no_change h =
    let s = seals_change_no_change (record h { depth = h.depth - 1 }) in
    group_end (SameButForSeals h) h (same_as_itself h) (record { past = s.past; future = s.future; save_point = s.save_point; collecting = s.collecting })

none_less : (n : ℕ) → (n == 0) ≡ true → n ≡ n - 1
none_less n e = let z = eqb-true n 0 e in omega arith

pub group_ended_is_less_deep : GroupEndedIsLessDeep
group_ended_is_less_deep h =
    cond_both (h.depth == 0) h (sealed_outside_groups (record h { depth = h.depth - 1 })) (λ g. g.depth ≡ h.depth - 1)
    (λ e. none_less h.depth e) (λ e. sealing_keeps_depth (record h { depth = h.depth - 1 }))

-- Append.

-- the history after a change is appended, joined or not
abbrev pub collected : Bool → Change → History → History
collected joined c h = record h { past = with_change joined c h.past; future = []; save_point = reachable (length h.past) h.save_point }

pub where_collecting : (later : Bool) (c : Change) (h : History) → h.collecting ≡ true → appended later c h ≡ collected (joins later c h) c h
where_collecting later c h e = cond-true h.collecting (collected (joins later c h) c h) h e

pub not_collecting_appends_nothing : NotCollectingAppendsNothing
not_collecting_appends_nothing later c h e = cond-false h.collecting (collected (joins later c h) c h) h e

pub append_keeps_all_but_the_past : AppendKeepsAllButThePast
append_keeps_all_but_the_past later c h e =
    subst (KeepsAllButThePast h) (sym (where_collecting later c h e))
    (record { future = refl; save_point = refl; depth = refl; collecting = e })

-- what holds of the history if a change joins
pub joined_last : (later : Bool) (c : Change) (h : History) (ts : List Transaction) → joins_last later c h ts ≡ true →
    (length (with_change true c ts) ≡ length ts) × (first_changes (with_change true c ts) ≡ c ∷ first_changes ts) × (at_save_point h ≡ false)
joined_last later c h [] e = cc
joined_last later c h (t ∷ ts) e = (refl, refl, not_saved t.is_sealed (at_save_point h) _ e)
  where
    not_saved : (a b d : Bool) → (not a && not b && d) ≡ true → b ≡ false
    not_saved true true d e = cc
    not_saved true false d e = refl
    not_saved false true d e = cc
    not_saved false false d e = refl

-- the transactions after a change joined the first of them
joined : (later : Bool) (c : Change) (h : History) (t : Transaction) (ts : List Transaction) (b : Bool) → b ≡ true → h.past ≡ t ∷ ts →
    with_change b c h.past ≡ record t { changes = c ∷ t.changes } ∷ ts
joined later c h t ts b e p = ap (λ (x : Bool). with_change x c h.past) e ∙ ap (with_change true c) p

-- a transaction that a change joins is not sealed
pub joined_open : (later : Bool) (c : Change) (h : History) (t : Transaction) (ts : List Transaction) → joins_last later c h (t ∷ ts) ≡ true → t.is_sealed ≡ false
joined_open later c h t ts e = first_false t.is_sealed (at_save_point h) _ e
  where
    first_false : (a b d : Bool) → (not a && not b && d) ≡ true → a ≡ false
    first_false true b d e = cc
    first_false false b d e = refl

pub append_joins : AppendJoins
append_joins later c h t ts e p j =
    let among : joins_last later c h (t ∷ ts) ≡ true = subst (λ (past : List Transaction). joins_last later c h past ≡ true) p j in
    let told = joined_last later c h (t ∷ ts) among in
    record {
      past = ap (λ (g : History). g.past) (where_collecting later c h e) ∙ joined later c h t ts (joins later c h) j p;
      is_open = joined_open later c h t ts among;
      modified = told.2;
    }

pub nothing_joins_none : NothingJoinsNone
nothing_joins_none later c h e = ap (joins_last later c h) e

-- a change that does not join is alone in a new transaction
pub begun : (c : Change) (ts : List Transaction) → with_change false c ts ≡ record { changes = c ∷ []; is_sealed = false } ∷ ts
begun c [] = refl
begun c (t ∷ ts) = refl

both_true : (a b : Bool) → (a && not b) ≡ true → (a ≡ true) × (b ≡ false)
both_true true true e = cc
both_true true false e = (refl, refl)
both_true false b e = cc

pub append_begins : AppendBegins
append_begins later c h e =
    let tests = both_true h.collecting (joins later c h) e in
    ap (λ (g : History). g.past) (where_collecting later c h tests.0)
    ∙ ap (λ b. with_change b c h.past) tests.1
    ∙ begun c h.past

count_of : (later : Bool) (c : Change) (h : History) (b j : Bool) → joins later c h ≡ j →
    length (cond b (collected j c h) h).past ≡ (if b && not j then length h.past + 1 else length h.past)
count_of later c h true true e = let told = joined_last later c h h.past e in told.0
count_of later c h true false e = ap length (begun c h.past) ∙ one_more (length h.past)
  where
    one_more : (n : ℕ) → suc n ≡ n + 1
    one_more n = omega arith
count_of later c h false j e = refl

pub append_counts : AppendCounts
append_counts later c h = count_of later c h h.collecting (joins later c h) refl

modified_by : (later : Bool) (c : Change) (h : History) (b : Bool) → joins later c h ≡ b → at_save_point (collected b c h) ≡ false
modified_by later c h true j =
    let told = joined_last later c h h.past j in
    ap (λ n. is_number n (reachable (length h.past) h.save_point)) told.0 ∙ other_save_point (length h.past) h.save_point told.2
modified_by later c h false j =
    ap (λ (ts : List Transaction). is_number (length ts) (reachable (length h.past) h.save_point)) (begun c h.past)
    ∙ lower_save_point (length h.past) (suc (length h.past)) h.save_point (omega arith)

pub append_leaves_the_save_point : AppendLeavesTheSavePoint
append_leaves_the_save_point later c h e =
    subst (λ g. at_save_point g ≡ false) (sym (where_collecting later c h e)) (modified_by later c h (joins later c h) refl)

-- Depth.

append_keeps_depth : (later : Bool) (c : Change) (h : History) → (appended later c h).depth ≡ h.depth
append_keeps_depth later c h = cond_both h.collecting (collected (joins later c h) c h) h (λ (g : History). g.depth ≡ h.depth) (λ e. refl) (λ e. refl)

container_keeps_depth : (token : ℤ) (coalesce : Bool) (h : History) → (with_container_step token coalesce h).depth ≡ h.depth
container_keeps_depth token coalesce h =
    let a = appended false (ContainerStep token coalesce) h in
    cond_both (coalesce || not h.collecting) a (sealed_outside_groups a) (λ (g : History). g.depth ≡ h.depth)
    (λ e. append_keeps_depth false (ContainerStep token coalesce) h)
    (λ e. sealing_keeps_depth a ∙ append_keeps_depth false (ContainerStep token coalesce) h)

undo_keeps_depth : (h : History) (ts : List Transaction) → (undone_to h ts).depth ≡ h.depth
undo_keeps_depth h [] = refl
undo_keeps_depth h (t ∷ ts) = refl

redo_keeps_depth : (h : History) (ts : List Transaction) → (redone_from h ts).depth ≡ h.depth
redo_keeps_depth h [] = refl
redo_keeps_depth h (t ∷ ts) = refl

pub others_keep_the_depth : OthersKeepTheDepth
others_keep_the_depth h = record {
  append = λ later c. append_keeps_depth later c h;
  container = λ token coalesce. container_keeps_depth token coalesce h;
  seal = sealing_keeps_depth h;
  undo = undo_keeps_depth h h.past;
  redo = redo_keeps_depth h h.future;
  save = refl;
}

-- Undo and redo.

undo_moves : (h : History) (ts : List Transaction) → h.past ≡ ts → 0 < length ts → MovesToTheFuture h (undone_to h ts)
undo_moves h [] e some = absurd (omega arith)
undo_moves h (t ∷ ts) e some = record {
  past = sealed_length ts ∙ sym (ap (λ (past : List Transaction). length past - 1) e ∙ one_less (length ts));
  future = suc_is_more (length h.future);
  changes = sym (ap first_changes e);
  save_point = refl;
}
  where
    one_less : (n : ℕ) → suc n - 1 ≡ n
    one_less n = omega arith

    suc_is_more : (n : ℕ) → suc n ≡ n + 1
    suc_is_more n = omega arith

pub undo_moves_to_the_future : UndoMovesToTheFuture
undo_moves_to_the_future h some = undo_moves h h.past refl some

redo_moves : (h : History) (ts : List Transaction) → h.future ≡ ts → 0 < length ts → MovesToThePast h (redone_from h ts)
redo_moves h [] e some = absurd (omega arith)
redo_moves h (t ∷ ts) e some = record {
  past = suc_is_more (length h.past);
  future = sym (ap (λ (future : List Transaction). length future - 1) e ∙ one_less (length ts));
  changes = sym (ap first_changes e);
  save_point = refl;
}
  where
    one_less : (n : ℕ) → suc n - 1 ≡ n
    one_less n = omega arith

    suc_is_more : (n : ℕ) → suc n ≡ n + 1
    suc_is_more n = omega arith

pub redo_moves_to_the_past : RedoMovesToThePast
redo_moves_to_the_past h some = redo_moves h h.future refl some

back_again : (h : History) (ts : List Transaction) → h.past ≡ ts → 0 < length ts → SameButForSeals h (redone (undone_to h ts))
back_again h [] e some = absurd (omega arith)
back_again h (t ∷ ts) e some = record {
  past = ap (λ (rest : List (List Change)). t.changes ∷ rest) (sealed_changes ts) ∙ sym (ap (map (λ (u : Transaction). u.changes)) e);
  future = refl;
  save_point = refl;
  collecting = refl;
}

pub undo_then_redo_gives_back_the_history : UndoThenRedoGivesBackTheHistory
undo_then_redo_gives_back_the_history h some = back_again h h.past refl some
