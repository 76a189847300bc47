-- How a session answers a message, by its number.
use Rattle.std.specs.Prelude.{Option, Some, None}
use Rattle.ed_types.specs.declared.kind.Kind.{Kind}
use Rattle.message_plans.specs.declared.way.Way.{Way}
use Rattle.message_plans.specs.declared.way.Way.TheVariants as way

-- the numeric query that is answered this way, if one is
abbrev pub question_in : Way → Option Kind
question_in (way.Question kind) = Some kind
question_in other = None

-- the text query that is
abbrev pub text_question_in : Way → Option Kind
text_question_in (way.TextQuestion kind) = Some kind
text_question_in other = None

-- the change of a view that is
abbrev pub view_change_in : Way → Option Kind
view_change_in (way.ViewChange kind) = Some kind
view_change_in other = None

-- the change of a document that is
abbrev pub document_change_in : Way → Option Kind
document_change_in (way.DocumentChange kind) = Some kind
document_change_in other = None

-- the message's kind, if the profile has the message
abbrev pub kind_in : Way → Option Kind
kind_in (way.Question kind) = Some kind
kind_in (way.TextQuestion kind) = Some kind
kind_in (way.ViewChange kind) = Some kind
kind_in (way.DocumentChange kind) = Some kind
kind_in (way.Planned kind) = Some kind
kind_in way.Unknown = None
