-- Line ends, and the conversion of all of them to one kind (SCI_CONVERTEOLS). [Scintilla: line ends; the order of the steps: own]
use Rattle.std.specs.Prelude.{ℕ, ◌+◌, ◌==◌, ◌&&◌, ◌||◌, not, if◌then◌else◌, Bool, true, false, List, [], ◌∷◌, ◌++◌, length, fold}
use Rattle.ed_model.specs.declared.plan.LineEnd.{LineEnd}
use Rattle.ed_model.specs.declared.plan.LineEnd.TheVariants.{CrLf, Cr, Lf}
use Rattle.ed_model.specs.Text.{line_feed, carriage_return}
use Rattle.ed_model.specs.Steps.{Step, Insert, Delete, edited}

abbrev pub line_end_bytes : LineEnd → List ℕ
line_end_bytes CrLf = carriage_return ∷ line_feed ∷ []
line_end_bytes Cr = carriage_return ∷ []
line_end_bytes Lf = line_feed ∷ []

abbrev pub begins_with_line_feed : List ℕ → Bool
begins_with_line_feed [] = false
begins_with_line_feed (b ∷ bs) = b == line_feed

-- the text with each CRLF, CR and LF replaced by the line end `to`; `after_return` says that the byte before it is a CR
abbrev pub converted_after : Bool → LineEnd → List ℕ → List ℕ
converted_after after_return to [] = []
converted_after after_return to (b ∷ bs) =
    if b == line_feed && after_return then converted_after false to bs
    else (if b == line_feed || b == carriage_return then line_end_bytes to ++ converted_after (b == carriage_return) to bs else b ∷ converted_after false to bs)

abbrev pub converted : LineEnd → List ℕ → List ℕ
converted to text = converted_after false to text

-- The steps that convert a text's line ends to one kind. First each missing byte is inserted, left to right, so that each line
-- end of another kind is a CRLF. Then each unwanted byte of these is deleted, left to right. The place of a step is a position in
-- the text as it is just before that step.

-- whether an LF that stands alone, or a CR that stands alone, is of another kind than the wanted one
abbrev pub is_feed_foreign : LineEnd → Bool
is_feed_foreign CrLf = true
is_feed_foreign Cr = true
is_feed_foreign Lf = false

abbrev pub is_return_foreign : LineEnd → Bool
is_return_foreign CrLf = true
is_return_foreign Cr = false
is_return_foreign Lf = true

-- whether a CR is missing before the byte, or an LF after it
abbrev pub lacks_return : Bool → LineEnd → ℕ → Bool
lacks_return after_return to b = b == line_feed && not after_return && is_feed_foreign to

abbrev pub lacks_feed : LineEnd → ℕ → List ℕ → Bool
lacks_feed to b bs = b == carriage_return && not (begins_with_line_feed bs) && is_return_foreign to

-- the step that inserts the missing byte before or after the byte at p
abbrev pub missing_at : ℕ → Bool → Bool → List Step
missing_at p true feed = Insert p (carriage_return ∷ []) ∷ []
missing_at p false true = Insert (p + 1) (line_feed ∷ []) ∷ []
missing_at p false false = []

-- the steps that insert what is missing from position p on; `missing` is a local, so that the rest of the text is computed only once
abbrev pub missing_from : ℕ → Bool → LineEnd → List ℕ → List Step
missing_from p after_return to [] = []
missing_from p after_return to (b ∷ bs) =
    let missing = missing_at p (lacks_return after_return to b) (lacks_feed to b bs) in
    missing ++ missing_from (p + 1 + length missing) (b == carriage_return) to bs

-- whether the CR, or the LF, of a CRLF is unwanted
abbrev pub is_return_unwanted : LineEnd → Bool
is_return_unwanted CrLf = false
is_return_unwanted Cr = false
is_return_unwanted Lf = true

abbrev pub is_feed_unwanted : LineEnd → Bool
is_feed_unwanted CrLf = false
is_feed_unwanted Cr = true
is_feed_unwanted Lf = false

-- whether the byte is unwanted
abbrev pub is_unwanted : Bool → LineEnd → ℕ → List ℕ → Bool
is_unwanted after_return to b bs =
    (b == carriage_return && begins_with_line_feed bs && is_return_unwanted to) || (b == line_feed && after_return && is_feed_unwanted to)

abbrev pub unwanted_at : ℕ → ℕ → Bool → List Step
unwanted_at p b true = Delete p (b ∷ []) ∷ []
unwanted_at p b false = []

abbrev pub place_after : ℕ → Bool → ℕ
place_after p true = p
place_after p false = p + 1

abbrev pub unwanted_from : ℕ → Bool → LineEnd → List ℕ → List Step
unwanted_from p after_return to [] = []
unwanted_from p after_return to (b ∷ bs) =
    let unwanted = is_unwanted after_return to b bs in
    unwanted_at p b unwanted ++ unwanted_from (place_after p unwanted) (b == carriage_return) to bs

abbrev pub after_steps : List Step → List ℕ → List ℕ
after_steps steps text = fold (λ t step. edited step t) text steps

abbrev pub conversion_steps : LineEnd → List ℕ → List Step
conversion_steps to text =
    let missing = missing_from 0 false to text in
    missing ++ unwanted_from 0 false to (after_steps missing text)
