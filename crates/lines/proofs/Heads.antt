-- A refusal's line, from its line of the table.
-- Assumes nothing.
use Rattle.std.proofs.Common.{Ok, Err}
use Prim.Native.Nat.{ℕ}
use mathlib.Core.Path.{◌≡◌, refl, ap, ◌∙◌}
use mathlib.Core.List.{List, ◌++◌, append_assoc}
use Rattle.rules.specs.Choice.{pick}
use Rattle.rules.specs.Names.{ascii}
use Rattle.rules.specs.Refusals.{line_of, labels_of, in_bytes, report_of}
use Rattle.rules.specs.Lines.{decimal, word, carried, stopped_at, end_line, refused_line, run_line_of, run_line}
use Rattle.rules.specs.declared.refusal.Why.{Why}
use Rattle.rules.specs.declared.refusal.Why.TheVariants.{Setting, BadSchemaTable, TooDeep, UnexpectedChildren, TooManyChildren, EmptyTableSchemas, UnknownRegistryReference, TableSchemaRootMustBeTuple, TableSchemaMustBeTuple, TableSchemaChildMissingName, MissingTableSchema, Truncated, RowTooLarge, BlobTooLarge, ValueDoesNotMatchSchema, TupleLength, InvalidVariantTag, BadValueTable, NoNodeRoom, NoPayloadRoom, NoOutputRoom, NoIndexRoom, IndexMismatch, NoSuchRow, NameNotUtf8}
use Rattle.rules.specs.declared.refusal.Refusal.{Refusal}
use Rattle.rules.specs.declared.refusal.RefusalLine.{RefusalLine}
use Rattle.rules.specs.declared.answer.Ran.{Ran}
use Rattle.lines.specs.Puts.{TextPut, head}

-- of the name's bytes the word is the name
name_word : (w : Why) → word (in_bytes (line_of w)).name ≡ ascii (line_of w).name
unfolding in_bytes line_of word pick ascii
name_word Setting = refl
name_word BadSchemaTable = refl
name_word TooDeep = refl
name_word (UnexpectedChildren type count) = refl
name_word (TooManyChildren type count maximum) = refl
name_word EmptyTableSchemas = refl
name_word (UnknownRegistryReference table) = refl
name_word (TableSchemaRootMustBeTuple found) = refl
name_word (TableSchemaMustBeTuple found) = refl
name_word (TableSchemaChildMissingName index) = refl
name_word (MissingTableSchema index) = refl
name_word (Truncated context) = refl
name_word (RowTooLarge limit) = refl
name_word (BlobTooLarge type length limit) = refl
name_word (ValueDoesNotMatchSchema type kind) = refl
name_word (TupleLength expected actual) = refl
name_word (InvalidVariantTag type tag children) = refl
name_word BadValueTable = refl
name_word (NoNodeRoom needed) = refl
name_word (NoPayloadRoom needed) = refl
name_word (NoOutputRoom needed) = refl
name_word NoIndexRoom = refl
name_word IndexMismatch = refl
name_word NoSuchRow = refl
name_word NameNotUtf8 = refl

module _ (r : Refusal) (rows bytes : ℕ) where
  abbrev number : List ℕ
  number = ascii "refused " ++ decimal (report_of r).number

  abbrev name : List ℕ
  name = ascii (line_of r.why).name

  abbrev rest : List ℕ
  rest = carried (labels_of (line_of r.why)) (report_of r).a (report_of r).b (report_of r).c

  abbrev stands : List ℕ
  stands = stopped_at r.place rows bytes

  -- the head and where the run stands are the line
  pub head_stands : (l : RefusalLine) → l ≡ in_bytes (line_of r.why) → head l ++ stands ≡ refused_line r rows bytes
  unfolding head refused_line report_of in_bytes
  head_stands l e =
      rw (e, name_word r.why)
      (append_assoc number (ascii " " ++ (name ++ rest)) stands ∙ ap (λ (x : List ℕ). number ++ x) (append_assoc (ascii " ") (name ++ rest) stands ∙ ap (λ (x : List ℕ). ascii " " ++ x) (append_assoc name rest stands)))

-- a run's line, by how it stops
module _ (s t : List ℕ) (end : ℕ) (ran : Ran) where
  pub run_ended : ran.stop ≡ Ok tt → TextPut s 0 (end_line ran.rows ran.bytes) t end → TextPut s 0 (run_line ran) t end
  unfolding run_line run_line_of
  run_ended e p = rw e p

  pub run_refused : (r : Refusal) → ran.stop ≡ Err r → TextPut s 0 (refused_line r ran.rows ran.bytes) t end → TextPut s 0 (run_line ran) t end
  unfolding run_line run_line_of
  run_refused r e p = rw e p
