-- That a sort of numbers from 0 on leaves a certificate, and that an order that passes its test has one.
pub mod Sorted
pub mod Tested
