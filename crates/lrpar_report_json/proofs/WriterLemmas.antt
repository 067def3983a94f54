-- Tokens that are written one after the other.
use Rattle.std.proofs.Common.{◌≤◌, ◌∷◌, ◌++◌, ℕ, [], List, length, take, map, refl, ap, subst, ◌∙◌, append_assoc}
use Rattle.std.specs.List.{flat_map}
use Rattle.std.proofs.lemmas.List.{take_all}
use Rattle.std.specs.Prelude.{Result, OnOk}
use Rattle.std.proofs.lemmas.Result.{on_ok_weaker}
use Rattle.json.specs.Token.{Token, begin_array, begin_object, end_array, end_object, key}
use Rattle.json.specs.Written.{Written, Writes}
use Rattle.lrpar_report_json.specs.Tokens.{list_member}
use Rattle.lrpar_report_json.specs.Writers.{WritesAll}
use Rattle.lrpar_report_json.specs.declared.writer.ReportWriter.{ReportWriter}

-- a writer that has written this instead
abbrev pub with_json : ReportWriter → Written → ReportWriter
with_json old json = record { json = json; lines = old.lines }

-- one token
pub writes_one : {E : Type 0} (r : Result (Unit {0}) E) (old : ReportWriter) (json : Written) (t : Token) → Writes r old.json json t
    → OnOk r (WritesAll old (with_json old json) (t ∷ []))
writes_one r old json t written = on_ok_weaker r (λ is. record { tokens = is; before = written.room.0; text = refl }) written.ok

-- some tokens, and others after them
pub writes_more : (old mid new : ReportWriter) (ts us : List Token) → WritesAll old mid ts → WritesAll mid new us → WritesAll old new (ts ++ us)
writes_more old mid new ts us first second = record {
  tokens = second.tokens ∙ ap (λ t. t ++ us) first.tokens ∙ append_assoc old.json.tokens ts us;
  before = second.before ∙ first.before;
  text = second.text ∙ first.text;
}

-- some tokens, and after them those that the text gives
pub writes_next : (old mid new : ReportWriter) (ts : List Token) (tokens_of : List ℕ → List Token) → WritesAll old mid ts
    → WritesAll mid new (tokens_of mid.lines.now) → WritesAll old new (ts ++ tokens_of old.lines.now)
writes_next old mid new ts tokens_of first second =
    writes_more old mid new ts (tokens_of old.lines.now) first (subst (λ text. WritesAll mid new (tokens_of text)) first.text second)

-- the tokens of all items
pub writes_items : {X : Type 0} (f : X → List Token) (old new : ReportWriter) (xs : List X) (i : ℕ) → length xs ≤ i
    → WritesAll old new (flat_map f (take i xs)) → WritesAll old new (flat_map f xs)
writes_items f old new xs i all written = subst (λ ys. WritesAll old new (flat_map f ys)) (take_all i xs all) written

-- the tokens of all items, one of each
pub writes_tokens : {X : Type 0} (f : X → Token) (old new : ReportWriter) (xs : List X) (i : ℕ) → length xs ≤ i
    → WritesAll old new (map f (take i xs)) → WritesAll old new (map f xs)
writes_tokens f old new xs i all written = subst (λ ys. WritesAll old new (map f ys)) (take_all i xs all) written

-- an object of some members
pub writes_object : (old begin members new : ReportWriter) (ts : List Token) → WritesAll old begin (begin_object ∷ []) → WritesAll begin members ts
    → WritesAll members new (end_object ∷ []) → WritesAll old new (begin_object ∷ (ts ++ end_object ∷ []))
writes_object old begin members new ts first second last =
    writes_more old members new (begin_object ∷ ts) (end_object ∷ []) (writes_more old begin members (begin_object ∷ []) ts first second) last

-- a member whose value is an array of some items
pub writes_list : (old named begin items new : ReportWriter) (name : List ℕ) (ts : List Token) → WritesAll old named (key name ∷ [])
    → WritesAll named begin (begin_array ∷ []) → WritesAll begin items ts → WritesAll items new (end_array ∷ []) → WritesAll old new (list_member name ts)
writes_list old named begin items new name ts first second third last =
    let front = writes_more old named begin (key name ∷ []) (begin_array ∷ []) first second in
    let most = writes_more old begin items (key name ∷ begin_array ∷ []) ts front third in
    writes_more old items new (key name ∷ begin_array ∷ ts) (end_array ∷ []) most last
