mod ShifterOrdered
mod TestVectors
