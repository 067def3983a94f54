-- What a writer of reports has written.
use Rattle.std.specs.Prelude.{◌≡◌, ℕ, ◌++◌, List, OnOk, Result}
use Rattle.json.specs.Token.{Token}
use Rattle.lrpar_report_json.specs.declared.writer.ReportWriter.{ReportWriter}

-- these tokens are written, after those that are there, and the text is still the same
pub record WritesAll (old new : ReportWriter) (ts : List Token) : Type 0 where
  pub tokens : new.json.tokens ≡ old.json.tokens ++ ts
  pub before : new.json.before ≡ old.json.before
  pub text : new.lines.now ≡ old.lines.now

-- if nothing failed, these tokens are written, after those that are there
abbrev pub Adds : {E : Type 0} → Result (Unit {0}) E → ReportWriter → ReportWriter → List Token → Type 0
Adds result old new ts = OnOk result (WritesAll old new ts)

-- if nothing failed, the tokens that the text gives are written, after those that are there
abbrev pub Puts : {E : Type 0} → Result (Unit {0}) E → ReportWriter → ReportWriter → (List ℕ → List Token) → Type 0
Puts result old new tokens_of = Adds result old new (tokens_of old.lines.now)
