-- What is promised of rates in four bytes, from the theorems of this folder. Assumes nothing.
use Rattle.savingmodel.specs.Forms.{FormsAreDifferent}
use Rattle.method.specs.FourBytes.{RewrittenFilesAsBefore, FourByteCases, FourByteParts}
use Rattle.theory.proofs.fourbytes.Same.{same-as-before}
use Rattle.theory.proofs.fourbytes.Plain.{N-is, up-sum, down-sum, rate-within, forward-within, part-is, forms-apart}

pub rewritten_files_are_as_before : RewrittenFilesAsBefore
rewritten_files_are_as_before = record { same = same-as-before }

pub four_byte_cases_count_finer : FourByteCases
four_byte_cases_count_finer = record {
  n = N-is;
  up_sum = up-sum;
  down_sum = down-sum;
  rate = λ k four w d t l h. let r = rate-within k four w d t l h in record { least = r.0; most = r.1 };
  forwards = λ k four w t l h. let r = forward-within k four w t l h in record { least = r.0; most = r.1 };
}

pub four_byte_parts_are_of_240 : FourByteParts
four_byte_parts_are_of_240 = record { each = λ file h four. let r = part-is file h four in record { part = r.0; inside = r.1 } }

pub forms_are_different : FormsAreDifferent
forms_are_different = record { bytes = forms-apart }
