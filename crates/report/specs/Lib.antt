-- All have to be believed. Valued: what is valued and printed of an input. Numbered: the numbers of a case. Shown: the word for where a UFR
-- comes from, and which number has which name. Report: what is printed of several files, and the status.
pub mod Valued
pub mod Numbered
pub mod Shown
pub mod Report
