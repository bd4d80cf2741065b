use Rattle.rules.specs.Names.{ascii}
use Rattle.rules.specs.Refusals.{line_of, labels_of, in_bytes}
use Rattle.rules.proofs.refusal.Why.line.Goals as goal

pub returns-in-Setting : goal.returns-in-Setting
unfolding in_bytes labels_of line_of ascii
returns-in-Setting c = rw c.in-Setting.is c.no_value.ensures

pub returns-in-BadSchemaTable : goal.returns-in-BadSchemaTable
unfolding in_bytes labels_of line_of ascii
returns-in-BadSchemaTable c = rw c.in-BadSchemaTable.is c.no_value-in-BadSchemaTable.ensures

pub returns-in-TooDeep : goal.returns-in-TooDeep
unfolding in_bytes labels_of line_of ascii
returns-in-TooDeep c = rw c.in-TooDeep.is c.no_value-in-TooDeep.ensures

pub returns-in-UnexpectedChildren : goal.returns-in-UnexpectedChildren
unfolding in_bytes labels_of line_of ascii
returns-in-UnexpectedChildren c = rw c.in-UnexpectedChildren.is c.two_values.ensures

pub returns-in-TooManyChildren : goal.returns-in-TooManyChildren
unfolding in_bytes labels_of line_of ascii
returns-in-TooManyChildren c = rw c.in-TooManyChildren.is c.three_values.ensures

pub returns-in-EmptyTableSchemas : goal.returns-in-EmptyTableSchemas
unfolding in_bytes labels_of line_of ascii
returns-in-EmptyTableSchemas c = rw c.in-EmptyTableSchemas.is c.no_value-in-EmptyTableSchemas.ensures

pub returns-in-UnknownRegistryReference : goal.returns-in-UnknownRegistryReference
unfolding in_bytes labels_of line_of ascii
returns-in-UnknownRegistryReference c = rw c.in-UnknownRegistryReference.is c.one_value.ensures

pub returns-in-TableSchemaRootMustBeTuple : goal.returns-in-TableSchemaRootMustBeTuple
unfolding in_bytes labels_of line_of ascii
returns-in-TableSchemaRootMustBeTuple c = rw c.in-TableSchemaRootMustBeTuple.is c.one_value-in-TableSchemaRootMustBeTuple.ensures

pub returns-in-TableSchemaMustBeTuple : goal.returns-in-TableSchemaMustBeTuple
unfolding in_bytes labels_of line_of ascii
returns-in-TableSchemaMustBeTuple c = rw c.in-TableSchemaMustBeTuple.is c.one_value-in-TableSchemaMustBeTuple.ensures

pub returns-in-TableSchemaChildMissingName : goal.returns-in-TableSchemaChildMissingName
unfolding in_bytes labels_of line_of ascii
returns-in-TableSchemaChildMissingName c = rw c.in-TableSchemaChildMissingName.is c.one_value-in-TableSchemaChildMissingName.ensures

pub returns-in-MissingTableSchema : goal.returns-in-MissingTableSchema
unfolding in_bytes labels_of line_of ascii
returns-in-MissingTableSchema c = rw c.in-MissingTableSchema.is c.one_value-in-MissingTableSchema.ensures

pub returns-in-Truncated : goal.returns-in-Truncated
unfolding in_bytes labels_of line_of ascii
returns-in-Truncated c = rw c.in-Truncated.is c.one_value-in-Truncated.ensures

pub returns-in-RowTooLarge : goal.returns-in-RowTooLarge
unfolding in_bytes labels_of line_of ascii
returns-in-RowTooLarge c = rw c.in-RowTooLarge.is c.one_value-in-RowTooLarge.ensures

pub returns-in-BlobTooLarge : goal.returns-in-BlobTooLarge
unfolding in_bytes labels_of line_of ascii
returns-in-BlobTooLarge c = rw c.in-BlobTooLarge.is c.three_values-in-BlobTooLarge.ensures

pub returns-in-ValueDoesNotMatchSchema : goal.returns-in-ValueDoesNotMatchSchema
unfolding in_bytes labels_of line_of ascii
returns-in-ValueDoesNotMatchSchema c = rw c.in-ValueDoesNotMatchSchema.is c.two_values-in-ValueDoesNotMatchSchema.ensures

pub returns-in-TupleLength : goal.returns-in-TupleLength
unfolding in_bytes labels_of line_of ascii
returns-in-TupleLength c = rw c.in-TupleLength.is c.two_values-in-TupleLength.ensures

pub returns-in-InvalidVariantTag : goal.returns-in-InvalidVariantTag
unfolding in_bytes labels_of line_of ascii
returns-in-InvalidVariantTag c = rw c.in-InvalidVariantTag.is c.three_values-in-InvalidVariantTag.ensures

pub returns-in-BadValueTable : goal.returns-in-BadValueTable
unfolding in_bytes labels_of line_of ascii
returns-in-BadValueTable c = rw c.in-BadValueTable.is c.no_value-in-BadValueTable.ensures

pub returns-in-NoNodeRoom : goal.returns-in-NoNodeRoom
unfolding in_bytes labels_of line_of ascii
returns-in-NoNodeRoom c = rw c.in-NoNodeRoom.is c.one_value-in-NoNodeRoom.ensures

pub returns-in-NoPayloadRoom : goal.returns-in-NoPayloadRoom
unfolding in_bytes labels_of line_of ascii
returns-in-NoPayloadRoom c = rw c.in-NoPayloadRoom.is c.one_value-in-NoPayloadRoom.ensures

pub returns-in-NoOutputRoom : goal.returns-in-NoOutputRoom
unfolding in_bytes labels_of line_of ascii
returns-in-NoOutputRoom c = rw c.in-NoOutputRoom.is c.one_value-in-NoOutputRoom.ensures

pub returns-in-NoIndexRoom : goal.returns-in-NoIndexRoom
unfolding in_bytes labels_of line_of ascii
returns-in-NoIndexRoom c = rw c.in-NoIndexRoom.is c.no_value-in-NoIndexRoom.ensures

pub returns-in-IndexMismatch : goal.returns-in-IndexMismatch
unfolding in_bytes labels_of line_of ascii
returns-in-IndexMismatch c = rw c.in-IndexMismatch.is c.no_value-in-IndexMismatch.ensures

pub returns-in-NoSuchRow : goal.returns-in-NoSuchRow
unfolding in_bytes labels_of line_of ascii
returns-in-NoSuchRow c = rw c.in-NoSuchRow.is c.no_value-in-NoSuchRow.ensures

pub returns-in-NameNotUtf8 : goal.returns-in-NameNotUtf8
unfolding in_bytes labels_of line_of ascii
returns-in-NameNotUtf8 c = rw c.in-NameNotUtf8.is c.no_value-in-NameNotUtf8.ensures
