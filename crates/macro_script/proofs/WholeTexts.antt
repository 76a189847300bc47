-- Whole texts, read from their first line on.
use Rattle.macro_script.proofs.Names.{◌≡◌, ◌⊎◌, inl, inr, ℕ, ◌≤◌, List, ◌∷◌, length, sym, ◌∙◌, ap, Ok, Err, ◌==◌, slice_split, Command, ScriptFault, line_feed, listing, ◌>>=◌, at_line, read_version, read_script, reading, read_from, read_script-first, reads_within, versions, OnlyListingsAreRead, OrMemory}
use Rattle.std.proofs.Common.{le-leb}
use Rattle.macro_script.specs.Scripts.{IsProper}

-- a text of at least one line
pub from_first : (text first rest : List ℕ) → length text ≤ 16777216 → slice_split (λ b. b == line_feed) text ≡ first ∷ slice_split (λ b. b == line_feed) rest → reading text ≡ (at_line 1 first (read_version first) >>= (λ version. read_from version 2 rest))
from_first text first rest short split =
    reads_within text (at_line 1 first (read_version first) >>= (λ version. read_from version 2 rest)) (le-leb (length text) 16777216 short) (ap read_script split ∙ read_script-first first rest)

pub bad_version : (text first rest : List ℕ) (fault : ScriptFault) → length text ≤ 16777216 → slice_split (λ b. b == line_feed) text ≡ first ∷ slice_split (λ b. b == line_feed) rest → at_line 1 first (read_version first) ≡ Err fault → reading text ≡ Err fault
bad_version text first rest fault short split h = from_first text first rest short split ∙ ap (λ r. r >>= (λ version. read_from version 2 rest)) h

pub good_version : (text first rest : List ℕ) (version : ℕ) → length text ≤ 16777216 → slice_split (λ b. b == line_feed) text ≡ first ∷ slice_split (λ b. b == line_feed) rest → at_line 1 first (read_version first) ≡ Ok version → reading text ≡ read_from version 2 rest
good_version text first rest version short split h = from_first text first rest short split ∙ ap (λ r. r >>= (λ v. read_from v 2 rest)) h

pub lines_found : (text rest : List ℕ) (version : ℕ) (commands : List Command) → reading text ≡ read_from version 2 rest → OrMemory (read_from version 2 rest) (Ok commands) → reading text ≡ Ok commands
lines_found text rest version commands whole (inl is) = whole ∙ sym is
lines_found text rest version commands whole (inr refused) = cc

length_either : (version : ℕ) (commands : List Command) → (version ≡ 2) ⊎ (version ≡ 1) → length (listing version commands) ≡ length (listing 2 commands)
length_either version commands (inl second) = ap (λ v. length (listing v commands)) second
length_either version commands (inr first) = ap (λ v. length (listing v commands)) first

pub proper_read : OnlyListingsAreRead → (text : List ℕ) (commands : List Command) → reading text ≡ Ok commands → IsProper commands (length text)
proper_read law text commands h =
    let is = law text commands h in
    record { typed = is.2.typed; within = is.2.within; length_is = ap length is.1 ∙ length_either is.0 commands (versions is.0 commands is.2.spoken) }
