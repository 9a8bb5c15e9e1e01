-- What the call program writes. Read in this order:
--   Model   what a line does, by the definition's make and step
--   Whole   the whole output of the whole input (output)
--   Listing the specification's listing, and its rules by example, by that definition
--   Stream  the same byte by byte, and what the code's functions promise by it
-- proofs/Agree.antt proves that the two are the same, however the input is cut into chunks.
pub mod Model
pub mod Whole
pub mod Listing
pub mod Stream
