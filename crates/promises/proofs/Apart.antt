-- What an answer says in document 01's numbers fixes it: no two answers say the same.
-- Assumes nothing.
use Rattle.std.specs.Prelude.{⊤}
use Rattle.std.proofs.Common.{Result, Option, Ok, Err, Some, None}
use Prim.Native.Nat.{ℕ, ◌-◌}
use mathlib.Core.Path.{◌≡◌, refl, sym, ap, ◌∙◌}
use mathlib.Core.List.{List, [], ◌∷◌}
use native.Mathlib.Omega.{arith}
use lib.Dec.{leb}
use lib.ListN.{get_or}
use Rattle.rules.specs.Choice.{pick}
use Rattle.rules.specs.Refusals.{line_of}
use Rattle.rules.specs.Answers.{Said, said, none_said, row_said, read_said, stop_said, written_said, text_said, checked_said}
use Rattle.rules.specs.declared.refusal.Refusal.{Refusal}
use Rattle.rules.specs.declared.refusal.Why.{Why}
use Rattle.rules.specs.declared.refusal.Why.TheVariants as why
use Rattle.rules.specs.declared.answer.Extent.{Extent}
use Rattle.rules.proofs.Answers.{refusal_number_lem, one_row}

-- the reasons of document 01 in the order of their numbers, with three values
cases : ℕ → ℕ → ℕ → List Why
cases a b c =
    why.Setting
    ∷ why.BadSchemaTable
    ∷ why.TooDeep
    ∷ why.UnexpectedChildren a b
    ∷ why.TooManyChildren a b c
    ∷ why.EmptyTableSchemas
    ∷ why.UnknownRegistryReference a
    ∷ why.TableSchemaRootMustBeTuple a
    ∷ why.TableSchemaMustBeTuple a
    ∷ why.TableSchemaChildMissingName a
    ∷ why.MissingTableSchema a
    ∷ why.Truncated a
    ∷ why.RowTooLarge a
    ∷ why.BlobTooLarge a b c
    ∷ why.ValueDoesNotMatchSchema a b
    ∷ why.TupleLength a b
    ∷ why.InvalidVariantTag a b c
    ∷ why.BadValueTable
    ∷ why.NoNodeRoom a
    ∷ why.NoPayloadRoom a
    ∷ why.NoOutputRoom a
    ∷ []

-- and those of document 02, from 30 on
later : List Why
later = why.NoIndexRoom ∷ why.IndexMismatch ∷ why.NoSuchRow ∷ why.NameNotUtf8 ∷ []

-- the one of a number and what it carries
back : ℕ → List ℕ → Why
back n xs = pick (leb 30 n) (get_or later (n - 30) why.Setting) (get_or (cases (get_or xs 0 0) (get_or xs 1 0) (get_or xs 2 0)) (n - 1) why.Setting)

back_line : (w : Why) → back (line_of w).number (line_of w).carries ≡ w
unfolding back cases later line_of pick
back_line why.Setting = refl
back_line why.BadSchemaTable = refl
back_line why.TooDeep = refl
back_line (why.UnexpectedChildren type count) = refl
back_line (why.TooManyChildren type count maximum) = refl
back_line why.EmptyTableSchemas = refl
back_line (why.UnknownRegistryReference table) = refl
back_line (why.TableSchemaRootMustBeTuple found) = refl
back_line (why.TableSchemaMustBeTuple found) = refl
back_line (why.TableSchemaChildMissingName index) = refl
back_line (why.MissingTableSchema index) = refl
back_line (why.Truncated context) = refl
back_line (why.RowTooLarge limit) = refl
back_line (why.BlobTooLarge type length limit) = refl
back_line (why.ValueDoesNotMatchSchema type kind) = refl
back_line (why.TupleLength expected actual) = refl
back_line (why.InvalidVariantTag type tag children) = refl
back_line why.BadValueTable = refl
back_line (why.NoNodeRoom needed) = refl
back_line (why.NoPayloadRoom needed) = refl
back_line (why.NoOutputRoom needed) = refl
back_line why.NoIndexRoom = refl
back_line why.IndexMismatch = refl
back_line why.NoSuchRow = refl
back_line why.NameNotUtf8 = refl

pub refusals_apart : (r r' : Refusal) → said r ≡ said r' → r ≡ r'
unfolding said
refusals_apart r r' e =
    let n : (line_of r.why).number ≡ (line_of r'.why).number = ap (λ (z : Said). z.number) e in
    let c : (line_of r.why).carries ≡ (line_of r'.why).carries = ap (λ (z : Said). z.carries) e in
    let p : r.place ≡ r'.place = ap (λ (z : Said). z.place) e in
    let b : back (line_of r.why).number (line_of r.why).carries ≡ back (line_of r'.why).number (line_of r'.why).carries = rw (n, c) in
    let w : r.why ≡ r'.why = sym (back_line r.why) ∙ (b ∙ back_line r'.why) in
    let z : ◌≡◌ {A = Refusal} (record { why = r.why; place = r.place }) r' = rw (w, p) in
    z

-- what is no refusal says 0
not_row : (r : Refusal) (e : Extent) → said r ≡ row_said e → ⊥
unfolding row_said
not_row r e h = refusal_number_lem r (ap (λ (z : Said). z.number) h)

not_none : (r : Refusal) → said r ≡ none_said → ⊥
unfolding none_said
not_none r h = refusal_number_lem r (ap (λ (z : Said). z.number) h)

row_not_none : (e : Extent) → row_said e ≡ none_said → ⊥
unfolding row_said none_said
row_not_none e h = let g = ap (λ (z : Said). z.carries) h in let z : ◌≡◌ {A = ℕ} 0 1 = cc in omega arith

pub reads_apart : (a b : Result (Option Extent) Refusal) → read_said a ≡ read_said b → a ≡ b
unfolding read_said
reads_apart (Ok (Some x)) (Ok (Some y)) h = ap (λ x. Ok (Some x)) (one_row x y h)
reads_apart (Ok (Some x)) (Ok None) h = absurd (row_not_none x h)
reads_apart (Ok (Some x)) (Err r) h = absurd (not_row r x (sym h))
reads_apart (Ok None) (Ok (Some y)) h = absurd (row_not_none y (sym h))
reads_apart (Ok None) (Ok None) h = refl
reads_apart (Ok None) (Err r) h = absurd (not_none r (sym h))
reads_apart (Err r) (Ok (Some y)) h = absurd (not_row r y h)
reads_apart (Err r) (Ok None) h = absurd (not_none r h)
reads_apart (Err r) (Err t) h = ap Err (refusals_apart r t h)

pub stops_apart : (a b : Result ⊤ Refusal) → stop_said a ≡ stop_said b → a ≡ b
unfolding stop_said
stops_apart (Ok _) (Ok _) h = refl
stops_apart (Ok tt) (Err r) h = absurd (not_none r (sym h))
stops_apart (Err r) (Ok tt) h = absurd (not_none r h)
stops_apart (Err r) (Err t) h = ap Err (refusals_apart r t h)

pub writings_apart : (a b : Result Extent Refusal) → written_said a ≡ written_said b → a ≡ b
unfolding written_said
writings_apart (Ok x) (Ok y) h = ap Ok (one_row x y h)
writings_apart (Ok x) (Err r) h = absurd (not_row r x (sym h))
writings_apart (Err r) (Ok y) h = absurd (not_row r y h)
writings_apart (Err r) (Err t) h = ap Err (refusals_apart r t h)

pub texts_apart : (a b : Result ℕ Refusal) → text_said a ≡ text_said b → a ≡ b
unfolding text_said
texts_apart (Ok m) (Ok n) h = ap Ok (ap (λ (x : Said). get_or x.carries 0 0) h)
texts_apart (Ok m) (Err r) h = absurd (refusal_number_lem r (ap (λ (x : Said). x.number) (sym h)))
texts_apart (Err r) (Ok n) h = absurd (refusal_number_lem r (ap (λ (x : Said). x.number) h))
texts_apart (Err r) (Err t) h = ap Err (refusals_apart r t h)

pub checks_apart : (a b : Result ⊤ Refusal) → checked_said a ≡ checked_said b → a ≡ b
unfolding checked_said
checks_apart (Ok _) (Ok _) h = refl
checks_apart (Ok tt) (Err r) h = absurd (not_none r (sym h))
checks_apart (Err r) (Ok tt) h = absurd (not_none r h)
checks_apart (Err r) (Err t) h = ap Err (refusals_apart r t h)
