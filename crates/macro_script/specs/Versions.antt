-- Versions and commands by the definitions' own names.
use Rattle.std.specs.Prelude.{ℕ}
use Rattle.ed_model.specs.Reading as reading
use Rattle.macro_script.specs.declared.commands.Version.{Version}
use Rattle.macro_script.specs.declared.commands.Version.TheVariants.{One, Two}
use Rattle.macro_script.specs.declared.commands.Verb.{Verb}
use Rattle.macro_script.specs.declared.commands.Verb.TheVariants.{Open, Close, Load, Send, Expect}

abbrev pub number_of : Version → ℕ
number_of One = 1
number_of Two = 2

abbrev pub verb_of : Verb → reading.Verb
verb_of Open = reading.opens
verb_of Close = reading.closes
verb_of Load = reading.loads
verb_of Send = reading.sends
verb_of Expect = reading.expects
