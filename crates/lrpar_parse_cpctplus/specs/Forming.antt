-- Which rests of repairs are meant, step by step: a class of them, and whether the step before them is a Delete.
use Rattle.std.specs.Prelude.{Bool, true, false, List, cond, slice_index_or}
use Rattle.lrpar_parse_repair.specs.Sequences.{PlainStep, PlainInsert, PlainDelete, PlainShift}
use Rattle.lrpar_parse_cpctplus.specs.declared.form.Class.{Class}
use Rattle.lrpar_parse_cpctplus.specs.declared.form.Class.TheVariants.{Clean, Avoided, Any, Nothing}
use Rattle.lrpar_parse_cpctplus.specs.declared.form.Form.{Form}

-- the class of the rest after an Insert of a token, which is one to be avoided or not
abbrev pub class_after : Bool → Class → Class
class_after false class = class
class_after true Clean = Nothing
class_after true Avoided = Any
class_after true Any = Any
class_after true Nothing = Nothing

-- whether the class has the sequence without steps
abbrev pub allows_none : Class → Bool
allows_none Clean = true
allows_none Avoided = false
allows_none Any = true
allows_none Nothing = false

-- what the rest has to be after its first step; no Insert comes right after a Delete
abbrev pub form_after : List Bool → Form → PlainStep → Form
form_after avoided form (PlainInsert t) = record {
  class = cond form.deleted Nothing (class_after (slice_index_or avoided t false) form.class);
  deleted = false;
}
form_after avoided form PlainDelete = record { class = form.class; deleted = true }
form_after avoided form PlainShift = record { class = form.class; deleted = false }

-- the form of a class after a Delete or another step
abbrev pub form_of : Class → Bool → Form
form_of class deleted = record { class = class; deleted = deleted }
