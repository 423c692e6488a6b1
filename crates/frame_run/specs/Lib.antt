-- What the program prints of readings and of bytes.
pub mod Printed
