-- How two quotients of whole numbers compare: Order has what the calls answer, Facts what follows.
pub mod Order
pub mod Facts
