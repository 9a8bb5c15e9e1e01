-- What the queue promises. Read in this order:
--   Meaning    what a queue means, and what every call may rely on
--   Answers    the specification's number and field for each answer
--   Promise    the promise of both makes and of every call
--   Histories  what follows for any list of calls
--   Dumps      what the memory of the ring shows
--   Steps      the steps inside the calls
pub mod Meaning
pub mod Answers
pub mod Promise
pub mod Histories
pub mod Dumps
pub mod Steps
