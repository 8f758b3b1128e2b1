-- What is promised of sizes. Assumes nothing.
use mathlib.Core.Path.{ap}
use Rattle.method.specs.Sizes.{ListingsAreShort, EveryListingCall}
use Rattle.model.specs.Layout.{case_of}
use Rattle.model.specs.Sizes.{AcceptedFilesAreShort, LongestFileIsAccepted, FirstBytesDecide}
use Rattle.savingmodel.specs.Saving.{shortest}
use Rattle.theory.proofs.acceptance.Deciding.{accepted-short, front-whole, front-decides}
use Rattle.theory.proofs.saving.Saved.{saved_read}
use Rattle.theory.proofs.sizes.Longest.{longest_case, longest-within, longest-length}
use Rattle.theory.proofs.sizes.Listed.{listing-short, listing_call}

pub accepted_files_are_short : AcceptedFilesAreShort
accepted_files_are_short = record { most = accepted-short }

pub longest_file_is_accepted : LongestFileIsAccepted
longest_file_is_accepted = record {
  file = shortest longest_case;
  accepted = (saved_read longest_case longest-within).0;
  long = longest-length;
}

pub first_bytes_decide : FirstBytesDecide
first_bytes_decide = record {
  same_refusal = front-decides;
  all_of_it = front-whole;
  same_case = λ file h. ap case_of (front-whole file h);
}

pub listings_are_short : ListingsAreShort
listings_are_short = record { most = listing-short }

pub every_listing_call : EveryListingCall
every_listing_call = record { call = listing_call }
